-- A word put into a slot: what the row has then, and what it keeps.
use Rattle.std.proofs.Common.{◌≡◌, ℕ, zero, suc, ◌+◌, ◌<◌, ◌≤◌, List, ◌++◌, length, get_or, take, drop, sym, refl, ap, ◌∙◌, add-zero, arith}
use Rattle.std.proofs.lemmas.List.{append_assoc, length-append, length-take-le, length-drop, get_or_append_left, get_or-append-add, get_or-take, drop_at}
use Rattle.std.specs.Simd.{first_chunks}
use Rattle.wire.proofs.Chunks.{chunk_at}
use Rattle.words.specs.Slots.{slot_place, slot_numbers, slot_word, word_in, with_slot}
use Rattle.words.specs.declared.slots.Word.{Word}

-- a slot is eight numbers of the row
pub slot_word_at : (slots d : List ℕ) (count k : ℕ) → k < count → slot_word (get_or (first_chunks 8 count slots) k d) ≡ word_in slots k
slot_word_at slots d count k l =
    let there : (j : ℕ) → j < 8 → get_or (get_or (first_chunks 8 count slots) k d) j 0 ≡ get_or slots (slot_place k + j) 0 = λ j h. chunk_at 8 count d slots k j l h in
    let p : get_or (get_or (first_chunks 8 count slots) k d) 0 0 ≡ get_or slots (slot_place k) 0 = rw add-zero at (there 0 (omega arith)) in
    λ i. record { first = p i; numbers = there 1 (omega arith) i; width = there 2 (omega arith) i }

module _ (slots : List ℕ) (n : ℕ) (v : Word) (room : slot_place (n + 1) ≤ length slots) where
  length_before : length (take (slot_place n) slots) ≡ slot_place n
  length_before = length-take-le (slot_place n) slots (omega arith)

  pub length_with_slot : length (with_slot slots n v) ≡ length slots
  length_with_slot =
      omega (
        arith,
        length-append (take (slot_place n) slots) (slot_numbers v ++ drop (slot_place (n + 1)) slots),
        length_before,
        length-drop (slot_place (n + 1)) slots,
      )

  pub getD_before_slot : (p : ℕ) → p < slot_place n → get_or (with_slot slots n v) p 0 ≡ get_or slots p 0
  getD_before_slot p l =
      get_or_append_left (take (slot_place n) slots) (slot_numbers v ++ drop (slot_place (n + 1)) slots) 0 p (omega (arith, length_before))
      ∙ get_or-take (slot_place n) slots p 0 l

  pub getD_in_slot : (j : ℕ) → j < 8 → get_or (with_slot slots n v) (slot_place n + j) 0 ≡ get_or (slot_numbers v) j 0
  getD_in_slot j l =
      ap (λ p. get_or (with_slot slots n v) (p + j) 0) (sym length_before)
      ∙ get_or-append-add (take (slot_place n) slots) (slot_numbers v ++ drop (slot_place (n + 1)) slots) j 0
      ∙ get_or_append_left (slot_numbers v) (drop (slot_place (n + 1)) slots) 0 j l

  pub drop_with_slot : drop (slot_place (n + 1)) (with_slot slots n v) ≡ drop (slot_place (n + 1)) slots
  drop_with_slot =
      ap (drop (slot_place (n + 1))) (sym (append_assoc (take (slot_place n) slots) (slot_numbers v) (drop (slot_place (n + 1)) slots)))
      ∙ drop_at (take (slot_place n) slots ++ slot_numbers v) (drop (slot_place (n + 1)) slots) (slot_place (n + 1))
      (omega (arith, length-append (take (slot_place n) slots) (slot_numbers v), length_before))

  pub word_in_slot : word_in (with_slot slots n v) n ≡ v
  word_in_slot =
      let p : get_or (with_slot slots n v) (slot_place n) 0 ≡ v.first = rw add-zero at (getD_in_slot 0 (omega arith)) in
      let q : get_or (with_slot slots n v) (slot_place n + 1) 0 ≡ v.numbers = getD_in_slot 1 (omega arith) in
      let r : get_or (with_slot slots n v) (slot_place n + 2) 0 ≡ v.width = getD_in_slot 2 (omega arith) in
      λ i. record { first = p i; numbers = q i; width = r i }

  pub word_in_other : (k : ℕ) → k < n → word_in (with_slot slots n v) k ≡ word_in slots k
  word_in_other k l =
      let p : get_or (with_slot slots n v) (slot_place k) 0 ≡ get_or slots (slot_place k) 0 = getD_before_slot (slot_place k) (omega arith) in
      let q : get_or (with_slot slots n v) (slot_place k + 1) 0 ≡ get_or slots (slot_place k + 1) 0 = getD_before_slot (slot_place k + 1) (omega arith) in
      let r : get_or (with_slot slots n v) (slot_place k + 2) 0 ≡ get_or slots (slot_place k + 2) 0 = getD_before_slot (slot_place k + 2) (omega arith) in
      λ i. record { first = p i; numbers = q i; width = r i }

-- all behind a word's width is 0
pub blank_numbers : (v : Word) (j : ℕ) → 3 ≤ j → j < 8 → get_or (slot_numbers v) j 0 ≡ 0
blank_numbers v zero a b = absurd (omega arith)
blank_numbers v (suc zero) a b = absurd (omega arith)
blank_numbers v (suc (suc zero)) a b = absurd (omega arith)
blank_numbers v (suc (suc (suc zero))) a b = refl
blank_numbers v (suc (suc (suc (suc zero)))) a b = refl
blank_numbers v (suc (suc (suc (suc (suc zero))))) a b = refl
blank_numbers v (suc (suc (suc (suc (suc (suc zero)))))) a b = refl
blank_numbers v (suc (suc (suc (suc (suc (suc (suc zero))))))) a b = refl
blank_numbers v (suc (suc (suc (suc (suc (suc (suc (suc j)))))))) a b = absurd (omega arith)
