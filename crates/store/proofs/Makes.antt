-- The plain facts from which an edit of an open book is made.
use Rattle.std.proofs.Common.{◌≡◌, ℕ, ◌+◌, ◌-◌, ◌*◌, ◌≤◌, min, true, false, leb, List, [], ◌∷◌, ◌++◌, length, get_or, take, drop, set, Some, None, Option, MatchOption, Ok, Err, Result, Bor, sum_by, sym, refl, ap, ◌∙◌, ap₂, subst, arith, lit<}
use Rattle.std.specs.List.{flat_map}
use Rattle.std.specs.Option.{option_map}
use Rattle.std.specs.Result.{result_ok}
use Rattle.std.proofs.lemmas.List.{length-take-le, length-drop, length-set, take-append-drop, set-append_left}
use Rattle.std.proofs.lemmas.Bool.{le-leb, leb-true, eqb-true, and_parts, and_from}
use Rattle.meaning.proofs.Picks.{pick_true}
use Rattle.wire.specs.declared.refusal.Refusal.{Refusal}
use Rattle.wire.specs.declared.refusal.Refusal.TheVariants.{BadOpening, NoParagraph, TooMuch}
use Rattle.store.specs.Kept.{kept_at, definitions_at, first_definition, limits_at, counts_within, table_sum, entries_at, is_open}
use Rattle.store.specs.Counted.{largest, counts_in, OpenBook}
use Rattle.store.specs.Changes.{spliced, Edit, entry_of, has_room, counts_after, paragraphs_after, size_after, bytes_after, edited_tokens, edited_rest, Changes}
use Rattle.store.specs.Edits.{edit_by, replacement_by, bytes_in, counts_in_content, entry_with, edit_in, Replaces}
use Rattle.store.specs.Splices.{replaced}
use Rattle.store.specs.declared.changes.Content.{Content}
use Rattle.store.specs.declared.changes.Edit as Asked
use Rattle.store.specs.declared.changes.Edit.TheVariants.{Put, PutIn, Cut}
use Rattle.store.specs.declared.changes.Replacement.{Replacement}
use Rattle.store.specs.declared.kept.Counts.{Counts}
use Rattle.store.specs.declared.kept.Kept.{Kept}
use Rattle.store.specs.declared.opening.Limits.{Limits}
use Rattle.store.proofs.Looking.{open_parts, Within as WithinLimits, within_parts}
use Rattle.store.proofs.Tables.{table_sum_le, length_entries, sum_front, sum_part}

pub record NumbersOf (ts rs : List ℕ) (k : Kept) : Type 0 where
  pub paragraphs_few : k.limits.paragraphs ≤ 4096
  pub tokens_few : k.limits.tokens ≤ 65536
  pub bulk_few : k.limits.bulk ≤ 4096
  pub bytes_long : 4 * k.limits.tokens ≤ length ts
  pub rest_long : 4096 + 8 * (k.limits.paragraphs + k.limits.definitions) ≤ length rs
  pub definitions_few : k.limits.definitions ≤ 1024
  pub within : WithinLimits k.paragraphs k.definitions k.limits
  pub bytes_add_up : table_sum 64 k.paragraphs.entries rs ≡ k.paragraphs.bytes
  pub sizes_add_up : table_sum 65 k.paragraphs.entries rs ≡ k.paragraphs.size
  pub defined_bytes_add_up : table_sum (64 + 4 * k.limits.paragraphs) k.definitions.entries rs ≡ k.definitions.bytes
  pub defined_sizes_add_up : table_sum (64 + 4 * k.limits.paragraphs + 1) k.definitions.entries rs ≡ k.definitions.size

pub numbers_at : (ts rs : List ℕ) → is_open (length ts) rs ≡ true → NumbersOf ts rs (kept_at rs)
numbers_at ts rs e =
    let p = open_parts (length ts) rs e in
    let l₀ = and_parts _ _ p.limits in
    let l₁ = and_parts _ _ l₀.1 in
    let l₂ = and_parts _ _ l₁.1 in
    let tables = and_parts _ _ p.table in
    let t = and_parts _ _ tables.0 in
    let d = and_parts _ _ tables.1 in
    record {
      paragraphs_few = leb-true _ _ l₀.0;
      tokens_few = leb-true _ _ l₁.0;
      definitions_few = leb-true _ _ l₂.0;
      bulk_few = leb-true _ _ l₂.1;
      bytes_long = p.bytes_enough;
      rest_long = omega (arith, p.numbers_enough);
      within = within_parts _ _ _ p.counts;
      bytes_add_up = eqb-true _ _ t.0;
      sizes_add_up = eqb-true _ _ t.1;
      defined_bytes_add_up = eqb-true _ _ d.0;
      defined_sizes_add_up = eqb-true _ _ d.1;
    }

pub numbers_of : (ts rs : List ℕ) (k : Kept) (es : List (List ℕ)) → OpenBook ts rs k es → NumbersOf ts rs k
numbers_of ts rs k es b = rw b.same (numbers_at ts rs b.opened)

-- what goes lies within what there is
pub record Within (first at gone n total : ℕ) (rs : List ℕ) : Type 0 where
  pub from_to : table_sum first at rs ≤ table_sum first (at + gone) rs
  pub to_end : table_sum first (at + gone) rs ≤ total

pub within_all : (first at gone n total : ℕ) (rs : List ℕ) → table_sum first n rs ≡ total → at + gone ≤ n → Within first at gone n total rs
within_all first at gone n total rs e h =
    record { from_to = table_sum_le first at (at + gone) rs (omega arith); to_end = omega (arith, table_sum_le first (at + gone) n rs h) }

-- what is known of a replacement of paragraphs that are there
pub replaces :
    (ts rs : List ℕ) (k : Kept) (es : List (List ℕ)) (before part : Counts) (c : Replacement) → OpenBook ts rs k es → c.at + c.gone ≤ k.paragraphs.entries →
    before ≡ counts_in (take c.at es) → part ≡ counts_in (take (c.at + c.gone - c.at) (drop c.at es)) → Replaces ts rs k before part c
unfolding entries_at
replaces ts rs k es before part c book h f g =
    let n : NumbersOf ts rs k = numbers_of ts rs k es book in
    let b = within_all 64 c.at c.gone k.paragraphs.entries k.paragraphs.bytes rs n.bytes_add_up h in
    let s = within_all 65 c.at c.gone k.paragraphs.entries k.paragraphs.size rs n.sizes_add_up h in
    let many : k.paragraphs.entries ≡ get_or rs 4 0 = ap (λ j. j.paragraphs.entries) book.same in
    let left : c.at + c.gone - c.at ≡ c.gone = omega arith in
    let taken : take (c.at + c.gone - c.at) (drop c.at es) ≡ take c.gone (drop c.at (entries_at rs)) = ap₂ (λ m xs. take m (drop c.at xs)) left book.entries in
    let front : before.bytes ≡ table_sum 64 c.at rs =
    ap (λ x. x.bytes) f ∙ (ap (λ xs. min (sum_by (λ x. get_or x 0 0) (take c.at xs)) largest) book.entries ∙ omega (arith, sum_front 64 (get_or rs 4 0) rs 0 c.at (lit< tt) (omega arith))) in
    let bytes : part.bytes ≡ table_sum 64 (c.at + c.gone) rs - table_sum 64 c.at rs =
    ap (λ x. x.bytes) g ∙ (ap (λ xs. min (sum_by (λ x. get_or x 0 0) xs) largest) taken ∙ omega (arith, sum_part 64 (get_or rs 4 0) rs 0 c.at c.gone (lit< tt) (omega arith))) in
    let size : part.size ≡ table_sum 65 (c.at + c.gone) rs - table_sum 65 c.at rs =
    ap (λ x. x.size) g ∙ (ap (λ xs. min (sum_by (λ x. get_or x 1 0) xs) largest) taken ∙ omega (arith, sum_part 64 (get_or rs 4 0) rs 1 c.at c.gone (lit< tt) (omega arith))) in
    record {
      opened = book.opened;
      same = book.same;
      there = h;
      paragraphs_before = ap (λ x. x.entries) f ∙ (ap (λ xs. length (take c.at xs)) book.entries ∙ length-take-le c.at (entries_at rs) (omega (arith, length_entries rs)));
      paragraphs_gone = ap (λ x. x.entries) g ∙ (ap length taken ∙ length-take-le c.gone (drop c.at (entries_at rs)) (omega (arith, length-drop c.at (entries_at rs), length_entries rs)));
      bytes_before = front;
      bytes_gone = omega arith;
      size_gone = omega arith;
      bytes_within = omega arith;
      size_within = omega arith;
      size_few = omega (arith, n.within.sizes);
      bytes_few = n.within.bytes;
      tokens_few = n.tokens_few;
      paragraphs_few = n.paragraphs_few;
      paragraphs_within = n.within.paragraphs;
      bulk_few = n.bulk_few;
      tokens_long = n.bytes_long;
      rest_long = omega (arith, n.rest_long);
    }

-- an edit that was made
module _ (ts rs ts' rs' : List ℕ) (e : Edit) (open_book : is_open (length ts) rs ≡ true) where
  pub made_at :
      e.at + e.gone ≤ get_or rs 4 0 → e.bulk ≤ get_or rs 3 0 → counts_within (counts_after e rs) (definitions_at rs) (limits_at rs) ≡ true →
      ts' ≡ edited_tokens e ts rs → rs' ≡ edited_rest e rs → Changes e ts rs ts' rs' (Ok tt)
  made_at there small few t r =
      let room : has_room e rs ≡ true = and_from _ _ (le-leb _ _ small) few in
      record {
        value =
            sym (pick_true (is_open (length ts) rs) _ (Err BadOpening) open_book
            ∙ (pick_true (leb (e.at + e.gone) (get_or rs 4 0)) _ (Err (NoParagraph e.at)) (le-leb _ _ there) ∙ pick_true (has_room e rs) (Ok tt) (Err TooMuch) room));
        tokens = t;
        rest = r;
      }

pub tokens_edited :
    (e : Edit) (ts rs : List ℕ) {start stop end : ℕ} → start ≡ table_sum 64 e.at rs → stop ≡ table_sum 64 (e.at + e.gone) rs → end ≡ get_or rs 6 0 →
    replaced 0 ts start (stop - start) (end - stop) e.bytes ≡ edited_tokens e ts rs
unfolding edited_tokens spliced
tokens_edited e ts rs f g h = rw (f, g, h) refl

-- the counts are written into the header
pub header_written :
    (at : ℕ) (xs hs ys : List ℕ) (p s b : ℕ) → at + 3 ≤ 64 → 64 ≤ length xs → hs ≡ take 64 xs → ys ≡ set (set (set hs at p) (at + 1) s) (at + 2) b →
    ys ++ drop 64 xs ≡ set (set (set xs at p) (at + 1) s) (at + 2) b
header_written at xs hs ys p s b room long cut written =
    let h : List ℕ = take 64 xs in
    let t : List ℕ = drop 64 xs in
    let n : length h ≡ 64 = length-take-le 64 xs long in
    ap (λ zs. zs ++ t) (written ∙ ap (λ zs. set (set (set zs at p) (at + 1) s) (at + 2) b) cut)
    ∙ sym (ap (λ zs. set (set (set zs at p) (at + 1) s) (at + 2) b) (sym (take-append-drop 64 xs))
    ∙ (ap (λ zs. set (set zs (at + 1) s) (at + 2) b) (set-append_left h t at p (omega arith))
    ∙ (ap (λ zs. set zs (at + 2) b) (set-append_left (set h at p) t (at + 1) s (omega (arith, length-set h at p)))
    ∙ set-append_left (set (set h at p) (at + 1) s) t (at + 2) b (omega (arith, length-set (set h at p) (at + 1) s, length-set h at p)))))

pub rest_edited :
    (c : Replacement) (rs xs : List ℕ) {flat : List ℕ} {start stop end p s b : ℕ} → xs ≡ replaced 0 rs start (stop - start) (end - stop) flat → start ≡ 64 + 4 * c.at → stop ≡ 64 + 4 * (c.at + c.gone) →
    end ≡ 64 + 4 * get_or rs 4 0 → flat ≡ entry_of (edit_in c) → p ≡ paragraphs_after (edit_in c) rs → s ≡ size_after (edit_in c) rs → b ≡ bytes_after (edit_in c) rs →
    set (set (set xs 4 p) 5 s) 6 b ≡ edited_rest (edit_in c) rs
unfolding edited_rest spliced
rest_edited c rs xs {flat} {start} {stop} {end} e f g h i j k l =
    let gone : stop - start ≡ 4 * c.gone = omega arith in
    let behind : end - stop ≡ 4 * (get_or rs 4 0 - (c.at + c.gone)) = omega arith in
    rw (e, gone, behind, f, i, j, k, l) refl

-- the new entry, or none
pub entry_flat :
    (at gone : ℕ) (new : Option Content) (o : Option (List ℕ)) (es : List (List ℕ)) (flat : List ℕ) → o ≡ option_map entry_with new → MatchOption o (es ≡ []) (λ x. es ≡ x ∷ []) →
    flat ≡ flat_map (λ x. x) es → flat ≡ entry_of (edit_in (record { at = at; gone = gone; new = new }))
entry_flat at gone None o es flat e m f = f ∙ ap (flat_map (λ x. x)) (subst (λ p. MatchOption p (es ≡ []) (λ x. es ≡ x ∷ [])) e m)
entry_flat at gone (Some new) o es flat e m f = f ∙ ap (flat_map (λ x. x)) (subst (λ p. MatchOption p (es ≡ []) (λ x. es ≡ x ∷ [])) e m)

-- an edit, as a replacement in a book of so many paragraphs
pub edit_made : (edit : Asked.Edit) (rs : List ℕ) (n : ℕ) → n ≡ get_or rs 4 0 → edit_in (replacement_by edit n) ≡ edit_by edit rs
edit_made (Put k new) rs n e = ap (λ m. edit_in (replacement_by (Put k new) m)) e
edit_made (PutIn k new) rs n e = refl
edit_made (Cut k) rs n e = refl

-- an open book that `ok_or` and `?` let through
pub found :
    {ts rs : List ℕ} {o : Option (Kept × Bor (List (List ℕ)))} {r : Result (Kept × Bor (List (List ℕ))) Refusal} {k : Kept} {es : Bor (List (List ℕ))} →
    MatchOption o (is_open (length ts) rs ≡ false) (λ p. OpenBook ts rs p.0 p.1.now) → o ≡ result_ok r → r ≡ Ok (k, es) → OpenBook ts rs k es.now
found {ts} {rs} m f g = subst (λ p. MatchOption p (is_open (length ts) rs ≡ false) (λ q. OpenBook ts rs q.0 q.1.now)) (f ∙ ap result_ok g) m

-- what comes, and how long it is
pub come_bytes : (new : Option Content) → length (bytes_in new) ≡ (counts_in_content new).bytes
come_bytes (Some new) = refl
come_bytes None = refl
