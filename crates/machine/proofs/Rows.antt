-- The paragraphs as rows of numbers: their forms, and their entries in the table; and how much they are together.
use Rattle.std.proofs.Common.{◌≡◌, ℕ, zero, suc, ◌+◌, ◌-◌, ◌*◌, ◌<◌, ◌≤◌, List, [], ◌∷◌, ◌++◌, length, get_or, take, sym, refl, ap, ◌∙◌, ap₂, zero-add, arith, take-suc}
use Rattle.std.proofs.lemmas.List.{append_assoc, length-append, take_at, get_or_append_left, get_or-append_right}
use Rattle.meaning.specs.Text.{Tokens, none, all_written}
use Rattle.meaning.specs.Calls.{size, sizes}
use Rattle.meaning.proofs.Forms.{length_all_written}
use Rattle.store.specs.Kept.{table_sum}
use Rattle.machine.specs.Setter.{bulk_of}
use Rattle.store.proofs.Tables.{table_sum_take}

abbrev pub forms : List Tokens → List ℕ
forms [] = []
forms (p ∷ ps) = all_written p ++ forms ps

abbrev pub entry : Tokens → List ℕ
entry p = length (all_written p) ∷ (size p ∷ (0 ∷ (0 ∷ [])))

abbrev pub entries : List Tokens → List ℕ
entries [] = []
entries (p ∷ ps) = entry p ++ entries ps

abbrev pub bulks : List Tokens → ℕ
bulks [] = 0
bulks (p ∷ ps) = bulk_of p + bulks ps

pub forms_append : (ps qs : List Tokens) → forms (ps ++ qs) ≡ forms ps ++ forms qs
forms_append [] qs = refl
forms_append (p ∷ ps) qs = ap (λ (xs : List ℕ). all_written p ++ xs) (forms_append ps qs) ∙ sym (append_assoc (all_written p) (forms ps) (forms qs))

pub entries_append : (ps qs : List Tokens) → entries (ps ++ qs) ≡ entries ps ++ entries qs
entries_append [] qs = refl
entries_append (p ∷ ps) qs = ap (λ (xs : List ℕ). entry p ++ xs) (entries_append ps qs)

pub sizes_append : (ps qs : List Tokens) → sizes (ps ++ qs) ≡ sizes ps + sizes qs
unfolding sizes
sizes_append [] qs = sym (zero-add (sizes qs))
sizes_append (p ∷ ps) qs = omega (arith, sizes_append ps qs)

pub length_entries : (ps : List Tokens) → length (entries ps) ≡ 4 * length ps
length_entries [] = refl
length_entries (p ∷ ps) = omega (arith, length_entries ps)

-- a token is two bytes at the most
pub length_forms : (ps : List Tokens) → length (forms ps) ≤ 2 * sizes ps
unfolding sizes
length_forms [] = omega arith
length_forms (p ∷ ps) = omega (arith, length-append (all_written p) (forms ps), length_all_written p, length_forms ps)

getD_entries : (ps : List Tokens) (n i : ℕ) → i < 4 → n < length ps → get_or (entries ps) (i + 4 * n) 0 ≡ get_or (entry (get_or ps n none)) i 0
getD_entries [] n i h k = absurd (omega arith)
getD_entries (p ∷ ps) zero i h k =
    let e : i + 4 * 0 ≡ i = omega arith in
    ap (λ j. get_or (entries (p ∷ ps)) j 0) e ∙ get_or_append_left (entry p) (entries ps) 0 i h
getD_entries (p ∷ ps) (suc n) i h k =
    let e : i + 4 * suc n ≡ suc (suc (suc (suc (i + 4 * n)))) = omega arith in
    ap (λ j. get_or (entries (p ∷ ps)) j 0) e ∙ getD_entries ps n i h (omega arith)

-- what stands in a field of the entries, added up, is what counts so much more for each paragraph
module _ (i : ℕ) (small : i < 4) (M : List Tokens → ℕ) (none_yet : M [] ≡ 0) (one_more : (ps : List Tokens) (p : Tokens) → M (ps ++ (p ∷ [])) ≡ M ps + get_or (entry p) i 0) where
  table_sum_first : (head : List ℕ) (ps : List Tokens) (n : ℕ) → length head ≡ 64 → n ≤ length ps → table_sum (64 + i) n (head ++ entries ps) ≡ M (take n ps)
  unfolding table_sum
  table_sum_first head ps zero e h = sym none_yet
  table_sum_first head ps (suc n) e h =
      let place : 64 + i + 4 * n - 64 ≡ i + 4 * n = omega arith in
      ap₂ ◌+◌ (table_sum_first head ps n e (omega arith))
      (get_or-append_right head (entries ps) 64 (64 + i + 4 * n) 0 e (omega arith) ∙ (ap (λ j. get_or (entries ps) j 0) place ∙ getD_entries ps n i small h))
      ∙ (sym (one_more (take n ps) (get_or ps n none)) ∙ ap M (sym (take-suc ps n none h)))

  -- of the first paragraphs, whatever stands behind the table
  pub table_sum_of : (head : List ℕ) (ps qs : List Tokens) (rest : List ℕ) → length head ≡ 64 → table_sum (64 + i) (length ps) ((head ++ entries (ps ++ qs)) ++ rest) ≡ M ps
  table_sum_of head ps qs rest e =
      let row : List ℕ = head ++ entries (ps ++ qs) in
      let long : length row ≡ 64 + 4 * (length ps + length qs) = simp (length-append, length_entries, e) in
      sym (table_sum_take (64 + i) (length ps) (length row) (row ++ rest) (omega arith))
      ∙ (ap (table_sum (64 + i) (length ps)) (take_at row rest (length row) refl)
      ∙ (table_sum_first head (ps ++ qs) (length ps) e (omega (arith, length-append ps qs)) ∙ ap M (take_at ps qs (length ps) refl)))
