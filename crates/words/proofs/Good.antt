-- Good tokens of letters, spaces and notes: their atoms are plain, and are read wherever there is room for them.
use Rattle.std.proofs.Common.{◌≡◌, ℕ, zero, suc, ◌+◌, ◌<◌, ◌≤◌, Bool, true, false, ◌&&◌, ltb, leb, eqb, not, inl, inr, List, [], ◌∷◌, length, take, drop, Some, None, Option, sym, refl, ap, ◌∙◌, arith}
use Rattle.std.specs.Option.{option_map}
use Rattle.std.proofs.lemmas.List.{take_at, length-append}
use Rattle.std.proofs.lemmas.Bool.{leb-true, lt-ltb, ne_eqb, and_from, and_parts, false≢true}
use Rattle.meaning.specs.Text.{pick, Atom, ch, gap, tag, foot, letter, space, mark, page_of, note, command, given, Tokens, none, more, plainly, flat}
use Rattle.meaning.specs.Calls.{good, bulk}
use Rattle.meaning.specs.Promise.{all_below}
use Rattle.meaning.proofs.Picks.{pick_false, some_picked}
use Rattle.wire.specs.Bytes.{tokens_of}
use Rattle.words.specs.Atoms.{numbers, is_letter, all_plain}
use Rattle.words.specs.Reads.{before_all, note_text, letter_atom, stage_atoms, within, found_within, how_many, with_atoms, Reads}
use Rattle.words.specs.Laws.{NumbersTell, Readably, LettersSpacesNotes, ReadsGood}
use Rattle.words.proofs.Decoding.{decoded_all, all_plain_stand}

pub bulk_numbers : (xs : List Atom) → length (numbers xs) ≡ bulk xs
unfolding bulk numbers
bulk_numbers [] = refl
bulk_numbers (ch c ∷ xs) = ap suc (bulk_numbers xs)
bulk_numbers (gap ∷ xs) = ap suc (bulk_numbers xs)
bulk_numbers (tag l ∷ xs) = ap suc (bulk_numbers xs)
bulk_numbers (foot f ∷ xs) = ap suc (length-append f (numbers xs) ∙ ap (λ (n : ℕ). length f + n) (bulk_numbers xs))

pub numbers_tell : (xs : List Atom) → NumbersTell xs
numbers_tell xs = record { back = λ p. decoded_all xs (all_plain_stand xs p); many = bulk_numbers xs }

-- a letter from 33 to 126
letter_plain : (c : ℕ) → (leb 33 c && leb c 126) ≡ true → (is_letter c ≡ true) × (letter_atom c ≡ ch c) × (c < 256)
letter_plain c e =
    let q = and_parts (leb 33 c) (leb c 126) e in
    let low = leb-true 33 c q.0 in
    let high = leb-true c 126 q.1 in
    let other : eqb c 32 ≡ false = ne_eqb c 32 (λ z. omega arith) in
    (and_from (ltb c 256) (not (eqb c 32)) (lt-ltb c 256 (omega arith)) (ap not other), pick_false (eqb c 32) gap (ch c) other, omega arith)

module _ (can : ℕ → Bool) (few : LettersSpacesNotes can) (pg : ℕ → ℕ) (does : ℕ → List Atom → List Atom) (arg : List Atom) where
  no_other : (k : ℕ) (b more_good : Bool) → 2 ≤ k → (k ≡ 4 → ⊥) → ((can k && b) && more_good) ≡ true → ⊥
  no_other k b more_good l other g = elim (few k (and_parts (can k) b (and_parts (can k && b) more_good g).0).0) [ inl h ↦ omega arith | inr h ↦ other h ]

  no_given : (depth : ℕ) (ts : Tokens) → (can 6 && good can ts depth) ≡ true → ⊥
  no_given depth ts g = elim (few 6 (and_parts (can 6) (good can ts depth) g).0) [ inl h ↦ omega arith | inr h ↦ omega arith ]

  -- what is left of good tokens in a note
  pub good_text : (ts : Tokens) (depth : ℕ) → good can ts depth ≡ true → (note_text ts ≡ Some (plainly (flat ts pg does arg))) × (all_below 256 (plainly (flat ts pg does arg)) ≡ true)
  unfolding note_text plainly all_below
  good_text none depth g = (refl, refl)
  good_text (more (letter c) ts) depth g =
      let p = and_parts (can 0 && (leb 33 c && leb c 126)) (good can ts depth) g in
      let q = letter_plain c (and_parts (can 0) (leb 33 c && leb c 126) p.0).1 in
      let h = good_text ts depth p.1 in
      (ap (before_all (Some c)) h.0, and_from (ltb c 256) _ (lt-ltb c 256 q.2) h.1)
  good_text (more space ts) depth g =
      let h = good_text ts depth (and_parts (can 1) (good can ts depth) g).1 in
      (ap (before_all (Some 32)) h.0, h.1)
  good_text (more (mark l) ts) depth g = absurd (no_other 2 (ltb l 256) (good can ts depth) (omega arith) (λ e. omega arith) g)
  good_text (more (page_of l) ts) depth g = absurd (no_other 3 (ltb l 256) (good can ts depth) (omega arith) (λ e. omega arith) g)
  good_text (more (note us) ts) zero g = absurd (false≢true g)
  good_text (more (note us) ts) (suc depth) g = good_text ts (suc depth) (and_parts (can 4 && good can us depth) (good can ts (suc depth)) g).1
  good_text (more (command k us) ts) zero g = absurd (false≢true g)
  good_text (more (command k us) ts) (suc depth) g = absurd (no_other 5 (ltb k 256 && good can us depth) (good can ts (suc depth)) (omega arith) (λ e. omega arith) g)
  good_text (more given ts) depth g = absurd (no_given depth ts g)

  pub good_readably : (ts : Tokens) (depth : ℕ) → good can ts depth ≡ true → Readably ts (flat ts pg does arg)
  unfolding stage_atoms all_plain
  good_readably none depth g = record { value = refl; plain = refl }
  good_readably (more (letter c) ts) depth g =
      let p = and_parts (can 0 && (leb 33 c && leb c 126)) (good can ts depth) g in
      let q = letter_plain c (and_parts (can 0) (leb 33 c && leb c 126) p.0).1 in
      let h = good_readably ts depth p.1 in
      record {
        value = ap (λ (x : Atom). before_all (Some x) (stage_atoms ts)) q.1 ∙ ap (before_all (Some (ch c))) h.value;
        plain = and_from (is_letter c) _ q.0 h.plain;
      }
  good_readably (more space ts) depth g =
      let h = good_readably ts depth (and_parts (can 1) (good can ts depth) g).1 in
      record { value = ap (before_all (Some gap)) h.value; plain = h.plain }
  good_readably (more (mark l) ts) depth g = absurd (no_other 2 (ltb l 256) (good can ts depth) (omega arith) (λ e. omega arith) g)
  good_readably (more (page_of l) ts) depth g = absurd (no_other 3 (ltb l 256) (good can ts depth) (omega arith) (λ e. omega arith) g)
  good_readably (more (note us) ts) zero g = absurd (false≢true g)
  good_readably (more (note us) ts) (suc depth) g =
      let p = and_parts (can 4 && good can us depth) (good can ts (suc depth)) g in
      let t = good_text us depth (and_parts (can 4) (good can us depth) p.0).1 in
      let h = good_readably ts (suc depth) p.1 in
      record {
        value = ap (λ (o : Option (List ℕ)). before_all (option_map foot o) (stage_atoms ts)) t.0 ∙ ap (before_all (Some (foot (plainly (flat us pg does arg))))) h.value;
        plain = and_from _ _ t.1 h.plain;
      }
  good_readably (more (command k us) ts) zero g = absurd (false≢true g)
  good_readably (more (command k us) ts) (suc depth) g = absurd (no_other 5 (ltb k 256 && good can us depth) (good can ts (suc depth)) (omega arith) (λ e. omega arith) g)
  good_readably (more given ts) depth g = absurd (no_given depth ts g)

-- what is read of these atoms, where they are all that the tokens are
module _ (xs : List Atom) (bytes : List ℕ) (most : ℕ) (before after : List ℕ) (r : Option ℕ) (p : Readably (tokens_of bytes) xs) (s : Reads bytes most before after r) where
  read_within : found_within most bytes ≡ pick (leb (bulk xs) most) (Some xs) None
  read_within = ap (within most) p.value ∙ ap (λ n. pick (leb n most) (Some xs) None) (bulk_numbers xs)

  count_picked : (b : Bool) → how_many (pick b (Some xs) None) ≡ pick b (Some (bulk xs)) None
  count_picked true = ap Some (bulk_numbers xs)
  count_picked false = refl

  pub reads_good : ReadsGood xs most after r
  reads_good =
      record {
        plain = p.plain;
        count = s.count ∙ ap how_many read_within ∙ count_picked (leb (bulk xs) most);
        row = λ n e. there n (found_within most bytes) refl (sym e ∙ s.count) s.holds;
      }
    where
      there : (n : ℕ) (o : Option (List Atom)) → found_within most bytes ≡ o → Some n ≡ how_many o → after ≡ with_atoms most o before → numbers xs ≡ take n after
      there n None f e h = cc
      there n (Some ys) f e h =
          let q : ys ≡ xs = (some_picked (leb (bulk xs) most) ys xs (sym f ∙ read_within)).1 in
          let many : n ≡ length (numbers ys) = cc in
          ap numbers (sym q) ∙ sym (ap (take n) h ∙ take_at (numbers ys) (drop (length (numbers ys)) before) n (sym many))
