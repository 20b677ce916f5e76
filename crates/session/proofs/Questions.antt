-- Questions on lent slices, answered as the machine answers them.
use Rattle.std.proofs.Common.{◌≡◌, ℕ, ◌+◌, ◌*◌, ◌≤◌, Bool, true, false, cond, ltb, leb, List, [], ◌++◌, length, get_or, take, drop, replicate, is_ok, ok_or, Some, None, Ok, Err, MatchResult, Option, Result, sym, refl, ap, ◌∙◌, ap₂, arith, lit<}
use Rattle.std.proofs.lemmas.List.{append_assoc, length-append, length-replicate, length-drop, length-take-le, take-append-drop, drop-append-le, drop-drop}
use Rattle.meaning.specs.Text.{pick}
use Rattle.meaning.specs.Calls.{Call, Answer, refused, rows, numbers, page_rows}
use Rattle.meaning.specs.Promise.{Memory}
use Rattle.meaning.proofs.Picks.{pick_true, pick_false}
use Rattle.wire.specs.Bytes.{over, answer_bytes}
use Rattle.wire.specs.declared.refusal.Refusal.{Refusal}
use Rattle.wire.specs.declared.refusal.Refusal.TheVariants.{BadOpening, NoPage, NoRows}
use Rattle.words.specs.Atoms.{cleared}
use Rattle.store.specs.Opened.{tokens_asked, kept_asked, words_asked, rest_asked, rest_of}
use Rattle.store.specs.Kept.{kept_at, is_open}
use Rattle.store.specs.declared.kept.Kept.{Kept}
use Rattle.layout.specs.Books.{pages_in, worked}
use Rattle.layout.specs.declared.book.Wanted.{Wanted}
use Rattle.layout.specs.Asked.{page_of, counting_pages, shown_of, showing, shown_bytes}
use Rattle.layout.proofs.Cutting.{pages_take}
use Rattle.machine.specs.Setter.{Wish, told_of, to_show, to_find, to_count, wish, shown_in, worked_on, says_to, left_by_wish, says, next}
use Rattle.session.specs.Answering.{limits_in, memory_in, unopened, said, left, Wished, Told, Performs}
use Rattle.session.specs.declared.answering.Wish.TheVariants.{Show, Find, Count}
use Rattle.session.proofs.Cuts.{whole, parts, open_cut, at_whole}
use Rattle.session.proofs.Performed.{Makes, same_tokens, same_rest}

-- a part that is cleared, and what stands behind it
cleared_front : (n w : ℕ) (xs : List ℕ) → n ≤ w → w ≤ length xs → cleared n (take w xs) ++ drop w xs ≡ cleared n xs
cleared_front n w xs l k =
    append_assoc (replicate n 0) (drop n (take w xs)) (drop w xs)
    ∙ ap (λ (ys : List ℕ). replicate n 0 ++ ys)
    (sym (drop-append-le n (take w xs) (drop w xs) (omega (arith, length-take-le w xs k))) ∙ ap (drop n) (take-append-drop w xs))

-- how rows that are there, or are not, are told
told_shown :
    (x y : Bool) (a : Answer) (k r : ℕ) (out : List ℕ) →
    let s : Result ℕ Refusal = pick x (pick y (Ok (length (answer_bytes a))) (Err (NoRows r))) (Err (NoPage k)) in
    Told s (pick x (pick y a (refused 5 r)) (refused 5 k)) out (cond (is_ok s) (over (answer_bytes a) out) out)
told_shown true true a k r out = (refl, refl)
told_shown true false a k r out = (refl, refl)
told_shown false y a k r out = (refl, refl)

-- where memory is no open book
closed : (ts rs : List ℕ) (c : Call) (w : Wish) → ((xs : List ℕ) → wish xs c ≡ w) → unopened w ≡ refused 3 2 → is_open (length ts) rs ≡ false → Makes ts rs c ts rs (refused 3 2)
closed ts rs c w asks e shut =
    record {
      value = sym (pick_false (is_open (length ts) rs) _ (unopened (wish [] c)) shut ∙ (ap unopened (asks []) ∙ e));
      tokens = sym (pick_false (is_open (length ts) rs) _ ts shut);
      rest = sym (pick_false (is_open (length ts) rs) _ rs shut);
    }

-- an open book
module _ (ts rs : List ℕ) (o : is_open (length ts) rs ≡ true) where
  pages_cut : pages_in (memory_in ts rs).tokens (rest_of (memory_in ts rs)) ≡ pages_in ts rs
  pages_cut =
      ap (pages_in (memory_in ts rs).tokens) (whole ts rs o)
      ∙ pages_take ts rs (tokens_asked (limits_in rs)) (rest_asked (limits_in rs)) o (omega arith) (omega arith)

  -- what the working part of the slice is when pages were made
  worked_words : List ℕ
  worked_words = cleared (17 * get_or rs 3 0) (memory_in ts rs).words

  worked_memory : worked_on (memory_in ts rs) ≡ record { tokens = (memory_in ts rs).tokens; words = worked_words; kept = (memory_in ts rs).kept }
  unfolding worked_words
  worked_memory =
      pick_true (is_open (length (memory_in ts rs).tokens) (rest_of (memory_in ts rs))) _ (memory_in ts rs) (open_cut ts rs o)
      ∙ ap (λ n. record { tokens = (memory_in ts rs).tokens; words = cleared (17 * n) (memory_in ts rs).words; kept = (memory_in ts rs).kept }) (at_whole ts rs o 3 (lit< tt))

  worked_rest : over (rest_of (worked_on (memory_in ts rs))) rs ≡ worked rs
  unfolding worked_words
  worked_rest =
      let k : ℕ = kept_asked (limits_in rs) in
      let w : ℕ = words_asked (limits_in rs) in
      let p = parts ts rs o in
      let long : rest_asked (limits_in rs) ≤ length rs = p.numbers_enough in
      let behind : w ≤ length (drop k rs) = omega (arith, length-drop k rs) in
      let kept_long : length (take k rs) ≡ k = length-take-le k rs (omega arith) in
      let words_long : length (take w (drop k rs)) ≡ w = length-take-le w (drop k rs) behind in
      let small : 17 * get_or rs 3 0 ≤ w = omega arith in
      let cleared_long : length worked_words ≡ w = omega (arith, length-append (replicate (17 * get_or rs 3 0) 0) (drop (17 * get_or rs 3 0) (take w (drop k rs))), length-replicate {A = ℕ} (17 * get_or rs 3 0) 0, length-drop (17 * get_or rs 3 0) (take w (drop k rs)), words_long) in
      let all_long : length (take k rs ++ worked_words) ≡ k + w = length-append (take k rs) worked_words ∙ ap₂ ◌+◌ kept_long cleared_long in
      ap (λ (n : Memory). over (rest_of n) rs) worked_memory
      ∙ (ap (λ n. (take k rs ++ worked_words) ++ drop n rs) all_long
      ∙ (append_assoc (take k rs) worked_words (drop (k + w) rs)
      ∙ ap (λ (xs : List ℕ). take k rs ++ xs) (ap (λ (xs : List ℕ). worked_words ++ xs) (sym (drop-drop w k rs)) ∙ cleared_front (17 * get_or rs 3 0) w (drop k rs) small behind)))

  worked_tokens : over (worked_on (memory_in ts rs)).tokens ts ≡ ts
  worked_tokens = ap (λ (n : Memory). over n.tokens ts) worked_memory ∙ same_tokens ts rs

  -- a question, answered
  module _ (c : Call) (w : Wish) (asks : (xs : List ℕ) → wish xs c ≡ w) where
    said_by : said ts rs c ≡ says_to w (memory_in ts rs)
    unfolding says
    said_by = pick_true (is_open (length ts) rs) _ (unopened (wish [] c)) o ∙ ap (λ x. says_to x (memory_in ts rs)) (asks (rest_of (memory_in ts rs)))

    left_so : (part : Memory → List ℕ) (xs : List ℕ) → left ts rs c part xs ≡ over (part (left_by_wish w (memory_in ts rs))) xs
    unfolding next
    left_so part xs = pick_true (is_open (length ts) rs) _ xs o ∙ ap (λ x. over (part (left_by_wish x (memory_in ts rs))) xs) (asks (rest_of (memory_in ts rs)))

    -- one for which pages were made
    worked_makes : left_by_wish w (memory_in ts rs) ≡ worked_on (memory_in ts rs) → (a : Answer) → says_to w (memory_in ts rs) ≡ a → Makes ts rs c ts (worked rs) a
    worked_makes works a so =
        record {
          value = sym (said_by ∙ so);
          tokens = sym (left_so (λ x. x.tokens) ts ∙ (ap (λ (n : Memory). over n.tokens ts) works ∙ worked_tokens));
          rest = sym (left_so rest_of rs ∙ (ap (λ (n : Memory). over (rest_of n) rs) works ∙ worked_rest));
        }

  if_open_so : (a : Answer) → pick (is_open (length (memory_in ts rs).tokens) (rest_of (memory_in ts rs))) a (refused 3 2) ≡ a
  if_open_so a = pick_true _ a (refused 3 2) (open_cut ts rs o)

  shown_so : (k r n : ℕ) → says_to (to_show k r n) (memory_in ts rs) ≡ shown_in ts rs k r n
  shown_so k r n =
      if_open_so _
      ∙ ap (λ ps. pick (ltb k (length ps)) (pick (leb (r + n) (length (page_rows (page_of ps k)))) (rows (take n (drop r (page_rows (page_of ps k))))) (refused 5 r)) (refused 5 k)) pages_cut

  counted_so : says_to to_count (memory_in ts rs) ≡ numbers (length (pages_in ts rs)) 1
  counted_so = if_open_so _ ∙ ap (λ ps. numbers (length ps) 1) pages_cut

  find_open : (c : Call) → ((xs : List ℕ) → wish xs c ≡ to_find) → Makes ts rs c ts rs (numbers 0 0)
  find_open c asks =
      record {
        value = sym (said_by c to_find asks ∙ if_open_so _);
        tokens = sym (left_so c to_find asks (λ x. x.tokens) ts ∙ same_tokens ts rs);
        rest = sym (left_so c to_find asks rest_of rs ∙ same_rest ts rs);
      }

-- questions, whatever memory is
module _ (ts rs : List ℕ) (c : Call) where
  pub find_made :
      {o : Option Kept} {r : Result Kept Refusal} → Wished c (Ok Find) → o ≡ pick (is_open (length ts) rs) (Some (kept_at rs)) None → r ≡ ok_or o BadOpening →
      MatchResult r (λ k. Makes ts rs c ts rs (numbers 0 0)) (λ why. Makes ts rs c ts rs (told_of (Err why)))
  find_made w looked taken = rw (taken, looked) (go (is_open (length ts) rs) refl)
    where
      go :
          (b : Bool) → is_open (length ts) rs ≡ b →
          MatchResult (ok_or (pick b (Some (kept_at rs)) None) BadOpening) (λ k. Makes ts rs c ts rs (numbers 0 0)) (λ why. Makes ts rs c ts rs (told_of (Err why)))
      go true o = find_open ts rs o c w.value
      go false shut = closed ts rs c to_find w.value refl shut

  pub count_made :
      {rs' : List ℕ} {r : Result ℕ Refusal} → Wished c (Ok Count) → r ≡ counting_pages ts rs → rs' ≡ cond (is_ok r) (worked rs) rs →
      MatchResult r (λ n. Makes ts rs c ts rs' (numbers n 1)) (λ why. Makes ts rs c ts rs' (told_of (Err why)))
  count_made w counts after = rw (after, counts) (go (is_open (length ts) rs) refl)
    where
      go :
          (b : Bool) → is_open (length ts) rs ≡ b → let r : Result ℕ Refusal = pick b (Ok (length (pages_in ts rs))) (Err BadOpening) in
          MatchResult r (λ n. Makes ts rs c ts (cond (is_ok r) (worked rs) rs) (numbers n 1)) (λ why. Makes ts rs c ts (cond (is_ok r) (worked rs) rs) (told_of (Err why)))
      go true o = worked_makes ts rs o c to_count w.value refl _ (counted_so ts rs o)
      go false shut = closed ts rs c to_count w.value refl shut

  pub show_performs :
      {wanted : Wanted} {out rs' out' : List ℕ} {r : Result ℕ Refusal} → Wished c (Ok (Show wanted)) → r ≡ showing ts rs wanted.page wanted.row wanted.count →
      out' ≡ cond (is_ok r) (over (shown_bytes ts rs wanted.page wanted.row wanted.count) out) out → rs' ≡ pick (is_open (length ts) rs) (worked rs) rs → Performs ts rs c out ts rs' out' r
  show_performs {wanted} {out} w shows writes after = rw (writes, shows, after) (go (is_open (length ts) rs) refl)
    where
      go :
          (b : Bool) → is_open (length ts) rs ≡ b → let r : Result ℕ Refusal = pick b (shown_of (pages_in ts rs) wanted.page wanted.row wanted.count) (Err BadOpening) in
          Performs ts rs c out ts (pick b (worked rs) rs) (cond (is_ok r) (over (shown_bytes ts rs wanted.page wanted.row wanted.count) out) out) r
      go true o =
          let made = worked_makes ts rs o c (to_show wanted.page wanted.row wanted.count) w.value refl _ (shown_so ts rs o wanted.page wanted.row wanted.count) in
          record {
            told = rw (sym made.value) (told_shown (ltb wanted.page (length (pages_in ts rs))) (leb (wanted.row + wanted.count) (length (page_rows (page_of (pages_in ts rs) wanted.page)))) _ wanted.page wanted.row out);
            tokens = made.tokens;
            rest = made.rest;
          }
      go false shut =
          let made = closed ts rs c (to_show wanted.page wanted.row wanted.count) w.value refl shut in
          record { told = (sym made.value, refl); tokens = made.tokens; rest = made.rest }
