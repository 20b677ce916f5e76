-- Lent slices that are longer than asked for: what an edit does to the part that is asked for, it does to the whole.
use Rattle.std.proofs.Common.{◌≡◌, ℕ, zero, suc, ◌+◌, ◌-◌, ◌*◌, ◌<◌, ◌≤◌, max, Bool, true, false, ◌&&◌, eqb, leb, List, [], ◌∷◌, ◌++◌, length, get_or, take, drop, set, Ok, Err, Result, sym, refl, ap, ◌∙◌, ap₂, arith, lit<}
use Rattle.std.proofs.lemmas.List.{append_assoc, length-append, length-replicate, length-set, length-drop, length-take-le, take-append-drop, take-append-le, drop-append-le, set-append_left, drop_at, drop-drop, get_or-take}
use Rattle.std.proofs.lemmas.Bool.{leb-true, and_parts}
use Rattle.meaning.specs.Text.{pick}
use Rattle.wire.specs.Bytes.{over}
use Rattle.wire.specs.declared.refusal.Refusal.{Refusal}
use Rattle.wire.specs.declared.refusal.Refusal.TheVariants.{BadOpening, NoParagraph, TooMuch}
use Rattle.store.specs.Opened.{tokens_asked, kept_asked, words_asked, rest_asked, rest_of}
use Rattle.store.specs.Kept.{kept_at, limits_at, definitions_at, table_sum, is_open}
use Rattle.store.specs.Changes.{spliced, Edit, has_room, counts_after, bytes_gone, paragraphs_after, size_after, bytes_after, entry_of, editing, edited_tokens, edited_rest}
use Rattle.store.proofs.Looking.{OpenParts, open_parts, open_take, within_parts}
use Rattle.store.proofs.Makes.{NumbersOf, numbers_at, within_all}
use Rattle.std.proofs.Math.Seq.{take-add}
use Rattle.store.proofs.Tables.{table_sum_take}
use Rattle.session.specs.Answering.{limits_in, memory_in}

-- rows written over the front of a row
pub over_append : (xs ys zs : List ℕ) → length xs ≡ length ys → over xs (ys ++ zs) ≡ xs ++ zs
over_append xs ys zs e = ap (λ t. xs ++ t) (drop_at ys zs (length xs) (sym e))

pub over_take : (xs ys : List ℕ) (n : ℕ) → length xs ≡ n → n ≤ length ys → over xs ys ≡ xs ++ drop n ys
over_take xs ys n e h = ap (λ m. xs ++ drop m ys) e

pub over_front : (n : ℕ) (xs : List ℕ) → over (take n xs) xs ≡ xs
over_front zero xs = refl
over_front (suc n) [] = refl
over_front (suc n) (x ∷ xs) = ap (λ ys. x ∷ ys) (over_front n xs)

-- an edit of the front leaves what stands behind
pub spliced_append :
    (ys zs : List ℕ) (a b t : ℕ) (new : List ℕ) → a + max b (length new) + t ≤ length ys → spliced (ys ++ zs) a b t new ≡ spliced ys a b t new ++ zs
unfolding spliced
spliced_append ys zs a b t new h =
    let front : take a (ys ++ zs) ≡ take a ys = take-append-le a ys zs (omega arith) in
    let behind : drop (a + b) (ys ++ zs) ≡ drop (a + b) ys ++ zs = drop-append-le (a + b) ys zs (omega arith) in
    let moved : take t (drop (a + b) (ys ++ zs)) ≡ take t (drop (a + b) ys) = ap (take t) behind ∙ take-append-le t (drop (a + b) ys) zs (rw length-drop (omega arith)) in
    let left : drop (a + max b (length new) + t) (ys ++ zs) ≡ drop (a + max b (length new) + t) ys ++ zs = drop-append-le (a + max b (length new) + t) ys zs h in
    rw (front, moved, left) (simp append_assoc refl)

pub length_spliced : (ys : List ℕ) (a b t : ℕ) (new : List ℕ) → a + max b (length new) + t ≤ length ys → length (spliced ys a b t new) ≡ length ys
unfolding spliced
length_spliced ys a b t new h =
    let front : length (take a ys) ≡ a = length-take-le a ys (omega arith) in
    let moved : length (take t (drop (a + b) ys)) ≡ t = length-take-le t (drop (a + b) ys) (rw length-drop (omega arith)) in
    simp (length-append, length-replicate, length-drop, front, moved) (omega arith)

pub length_entry_of : (come n s : ℕ) → come ≤ 1 → length (pick (eqb come 0) [] (n ∷ (s ∷ (0 ∷ (0 ∷ []))))) ≡ 4 * come
length_entry_of zero n s h = refl
length_entry_of (suc zero) n s h = refl
length_entry_of (suc (suc come)) n s h = absurd (omega arith)

-- what decides about an edit: an open book, a paragraph that is there, and room
abbrev pub decided : Edit → Bool → Bool → Bool → Result (Unit {0}) Refusal
decided e o there room = pick o (pick there (pick room (Ok tt) (Err TooMuch)) (Err (NoParagraph e.at))) (Err BadOpening)

-- an open book in lent slices, and what is cut out of them
module _ (ts rs : List ℕ) (open_book : is_open (length ts) rs ≡ true) where
  pub parts : OpenParts (length ts) rs
  parts = open_parts (length ts) rs open_book

  numbers : NumbersOf ts rs (kept_at rs)
  numbers = numbers_at ts rs open_book

  pub whole : rest_of (memory_in ts rs) ≡ take (rest_asked (limits_in rs)) rs
  whole = sym (take-add (kept_asked (limits_in rs)) (words_asked (limits_in rs)) rs)

  pub open_cut : is_open (length (memory_in ts rs).tokens) (rest_of (memory_in ts rs)) ≡ true
  open_cut =
      let long : tokens_asked (limits_in rs) ≤ length (take (tokens_asked (limits_in rs)) ts) = omega (arith, length-take-le (tokens_asked (limits_in rs)) ts parts.bytes_enough) in
      rw whole (open_take (length ts) rs (length (take (tokens_asked (limits_in rs)) ts)) (rest_asked (limits_in rs)) open_book long refl)

  -- header and table read the same in the whole, in what is asked for, and in what is kept
  pub at_whole : (i : ℕ) → i < 64 → get_or (rest_of (memory_in ts rs)) i 0 ≡ get_or rs i 0
  at_whole i h = ap (λ xs. get_or xs i 0) whole ∙ get_or-take (rest_asked (limits_in rs)) rs i 0 (omega arith)

  at_kept : (i : ℕ) → i < 64 → get_or (memory_in ts rs).kept i 0 ≡ get_or rs i 0
  at_kept i h = get_or-take (kept_asked (limits_in rs)) rs i 0 (omega arith)

  sum_whole : (first k : ℕ) → first < 66 → k ≤ get_or rs 4 0 → table_sum first k (rest_of (memory_in ts rs)) ≡ table_sum first k rs
  sum_whole first k h l = ap (table_sum first k) whole ∙ table_sum_take first k (rest_asked (limits_in rs)) rs (omega (arith, numbers.within.paragraphs))

  sum_kept : (first k : ℕ) → first < 66 → k ≤ get_or rs 4 0 → table_sum first k (memory_in ts rs).kept ≡ table_sum first k rs
  sum_kept first k h l = table_sum_take first k (kept_asked (limits_in rs)) rs (omega (arith, numbers.within.paragraphs))

  -- an edit is allowed in the one where it is in the other
  editing_there : (e : Edit) → e.at + e.gone ≤ get_or rs 4 0 → has_room e (rest_of (memory_in ts rs)) ≡ has_room e rs
  editing_there e h =
      let all = sum_whole 64 (e.at + e.gone) (lit< tt) h in
      let some = sum_whole 64 e.at (lit< tt) (omega arith) in
      let all_size = sum_whole 65 (e.at + e.gone) (lit< tt) h in
      let some_size = sum_whole 65 e.at (lit< tt) (omega arith) in
      rw (at_whole 0 (lit< tt), at_whole 1 (lit< tt), at_whole 2 (lit< tt), at_whole 3 (lit< tt), at_whole 4 (lit< tt), at_whole 5 (lit< tt), at_whole 6 (lit< tt), at_whole 7 (lit< tt), at_whole 8 (lit< tt), at_whole 9 (lit< tt), all, some, all_size, some_size) refl

  pub editing_cut : (e : Edit) → editing e (length (memory_in ts rs).tokens) (rest_of (memory_in ts rs)) ≡ editing e (length ts) rs
  editing_cut e =
      ap₂ (λ o k. decided e o (leb (e.at + e.gone) k) (has_room e (rest_of (memory_in ts rs)))) open_cut (at_whole 4 (lit< tt))
      ∙ (go (leb (e.at + e.gone) (get_or rs 4 0)) refl ∙ ap (λ o. decided e o (leb (e.at + e.gone) (get_or rs 4 0)) (has_room e rs)) (sym open_book))
    where
      go : (b : Bool) → leb (e.at + e.gone) (get_or rs 4 0) ≡ b → decided e true b (has_room e (rest_of (memory_in ts rs))) ≡ decided e true b (has_room e rs)
      go true t = ap (decided e true true) (editing_there e (leb-true _ _ t))
      go false t = refl

  -- and where it is allowed, what it leaves in the whole is what it leaves in the part, and the tail
  module _ (e : Edit) (there : e.at + e.gone ≤ get_or rs 4 0) (room : has_room e rs ≡ true) where
    roomy : (paragraphs_after e rs ≤ get_or rs 0 0) × (bytes_after e rs ≤ 2 * get_or rs 1 0)
    roomy =
        let w = within_parts (counts_after e rs) (definitions_at rs) (limits_at rs) (and_parts (leb e.bulk (get_or rs 3 0)) _ room).1 in
        (w.paragraphs, w.bytes)

    edited_cut : edited_tokens e (take (tokens_asked (limits_in rs)) ts) (memory_in ts rs).kept ≡ edited_tokens e (take (tokens_asked (limits_in rs)) ts) rs
    unfolding edited_tokens
    edited_cut = rw (sum_kept 64 (e.at + e.gone) (lit< tt) there, sum_kept 64 e.at (lit< tt) (omega arith), at_kept 6 (lit< tt)) refl

    tokens_bound : table_sum 64 e.at rs + max (bytes_gone e rs) (length e.bytes) + (get_or rs 6 0 - table_sum 64 (e.at + e.gone) rs) ≤ length (take (tokens_asked (limits_in rs)) ts)
    tokens_bound =
        let w = within_all 64 e.at e.gone (get_or rs 4 0) (get_or rs 6 0) rs numbers.bytes_add_up there in
        omega (arith, roomy.1, numbers.within.bytes, length-take-le (tokens_asked (limits_in rs)) ts parts.bytes_enough)

    pub tokens_cut : over (edited_tokens e (memory_in ts rs).tokens (memory_in ts rs).kept) ts ≡ edited_tokens e ts rs
    unfolding edited_tokens
    tokens_cut =
        let k : ℕ = tokens_asked (limits_in rs) in
        let long : length (edited_tokens e (take k ts) rs) ≡ k = length_spliced (take k ts) _ _ _ e.bytes tokens_bound ∙ length-take-le k ts parts.bytes_enough in
        ap (λ xs. over xs ts) edited_cut
        ∙ (over_take (edited_tokens e (take k ts) rs) ts k long parts.bytes_enough
        ∙ (sym (spliced_append (take k ts) (drop k ts) _ _ _ e.bytes tokens_bound)
        ∙ ap (λ xs. edited_tokens e xs rs) (take-append-drop k ts)))

    module _ (gone_few : e.gone ≤ 1) (come_few : e.come ≤ 1) where
      entry_long : length (entry_of e) ≡ 4 * e.come
      entry_long = length_entry_of e.come (length e.bytes) e.size come_few

      table_bound : 64 + 4 * e.at + max (4 * e.gone) (length (entry_of e)) + 4 * (get_or rs 4 0 - (e.at + e.gone)) ≤ length (take (kept_asked (limits_in rs)) rs)
      table_bound =
          omega (arith, entry_long, roomy.0, numbers.within.paragraphs, numbers.rest_long, length-take-le (kept_asked (limits_in rs)) rs (omega (arith, numbers.rest_long)))

      -- the three counts, over the table
      counted : List ℕ → List ℕ
      counted xs = set (set (set xs 4 (paragraphs_after e rs)) 5 (size_after e rs)) 6 (bytes_after e rs)

      counted_append : (ys zs : List ℕ) → 64 ≤ length ys → counted (ys ++ zs) ≡ counted ys ++ zs
      unfolding counted
      counted_append ys zs h =
          let four = set-append_left ys zs 4 (paragraphs_after e rs) (omega arith) in
          let five = set-append_left (set ys 4 (paragraphs_after e rs)) zs 5 (size_after e rs) (rw length-set (omega arith)) in
          let six = set-append_left (set (set ys 4 (paragraphs_after e rs)) 5 (size_after e rs)) zs 6 (bytes_after e rs) (rw (length-set, length-set) (omega arith)) in
          ap (λ xs. set (set xs 5 (size_after e rs)) 6 (bytes_after e rs)) four ∙ (ap (λ xs. set xs 6 (bytes_after e rs)) five ∙ six)

      rest_kept : edited_rest e (memory_in ts rs).kept ≡ counted (spliced (memory_in ts rs).kept (64 + 4 * e.at) (4 * e.gone) (4 * (get_or rs 4 0 - (e.at + e.gone))) (entry_of e))
      unfolding edited_rest counted
      rest_kept =
          rw (at_kept 4 (lit< tt), at_kept 5 (lit< tt), at_kept 6 (lit< tt), sum_kept 64 (e.at + e.gone) (lit< tt) there, sum_kept 64 e.at (lit< tt) (omega arith), sum_kept 65 (e.at + e.gone) (lit< tt) there, sum_kept 65 e.at (lit< tt) (omega arith)) refl

      pub rest_cut : over (edited_rest e (memory_in ts rs).kept ++ (memory_in ts rs).words) rs ≡ edited_rest e rs
      unfolding edited_rest counted
      rest_cut =
          let k : ℕ = kept_asked (limits_in rs) in
          let w : ℕ = words_asked (limits_in rs) in
          let table : List ℕ = spliced (take k rs) (64 + 4 * e.at) (4 * e.gone) (4 * (get_or rs 4 0 - (e.at + e.gone))) (entry_of e) in
          let kept_long : length (take k rs) ≡ k = length-take-le k rs (omega (arith, numbers.rest_long)) in
          let long : length table ≡ k = length_spliced (take k rs) _ _ _ (entry_of e) table_bound ∙ kept_long in
          let counted_long : length (counted table) ≡ k = simp length-set long in
          let words_long : length (take w (drop k rs)) ≡ w = length-take-le w (drop k rs) (rw length-drop (omega (arith, parts.numbers_enough))) in
          let all_long : length (counted table ++ take w (drop k rs)) ≡ k + w = length-append (counted table) (take w (drop k rs)) ∙ ap₂ ◌+◌ counted_long words_long in
          let tail : take w (drop k rs) ++ drop (k + w) rs ≡ drop k rs = ap (λ r. take w (drop k rs) ++ r) (sym (drop-drop w k rs)) ∙ take-append-drop w (drop k rs) in
          ap (λ x. over (x ++ take w (drop k rs)) rs) rest_kept
          ∙ (ap (λ m. (counted table ++ take w (drop k rs)) ++ drop m rs) all_long
          ∙ (append_assoc (counted table) (take w (drop k rs)) (drop (k + w) rs)
          ∙ (ap (λ r. counted table ++ r) tail
          ∙ (sym (counted_append table (drop k rs) (omega arith))
          ∙ ap counted (sym (spliced_append (take k rs) (drop k rs) _ _ _ (entry_of e) table_bound) ∙ ap (λ xs. spliced xs (64 + 4 * e.at) (4 * e.gone) (4 * (get_or rs 4 0 - (e.at + e.gone))) (entry_of e)) (take-append-drop k rs))))))
