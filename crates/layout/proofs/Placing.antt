-- Letters placed in a row, as bytes, written one by one and word by word.
use Rattle.std.proofs.Common.{◌≡◌, ℕ, suc, ◌+◌, ◌-◌, ◌*◌, ◌<◌, ◌≤◌, ltb, List, [], ◌∷◌, ◌++◌, length, sym, refl, ap, ◌∙◌, ap₂, arith}
use borrow.Rule.Slice.PartMut.{put_mid}
use Rattle.std.proofs.lemmas.List.{length-append}
use Rattle.meaning.specs.Text.{pick, ch}
use Rattle.meaning.specs.Lines.{Word, Placed, long, place_letters, place_words}
use Rattle.meaning.specs.Promise.{letters_of}
use Rattle.wire.specs.Bytes.{four, letters_bytes, over}
use Rattle.wire.proofs.Answered.{length_letters_bytes}
use Rattle.words.specs.Atoms.{decoded, atom_of, FirstAtom}
use Rattle.words.specs.declared.atoms.Atom.{Atom}
use Rattle.words.specs.declared.atoms.Atom.TheVariants.{Letter, Gap, Mark, Note}
use Rattle.layout.specs.Rows.{letters_in}
use Rattle.layout.proofs.Writing.{written, written_none, written_more, length_written}

pub letters_bytes_append : (ps qs : List Placed) → letters_bytes (ps ++ qs) ≡ letters_bytes ps ++ letters_bytes qs
unfolding letters_bytes
letters_bytes_append [] qs = refl
letters_bytes_append (p ∷ ps) qs = ap (λ (bs : List ℕ). p.what ∷ (four p.at ++ bs)) (letters_bytes_append ps qs)

pub length_place_letters : (wide : ℕ → ℕ) (x : ℕ) (cs : List ℕ) → length (place_letters wide x cs) ≡ length cs
unfolding place_letters
length_place_letters wide x [] = refl
length_place_letters wide x (c ∷ cs) = ap suc (length_place_letters wide (x + wide c) cs)

pub length_place_words : (wide : ℕ → ℕ) (x : ℕ) (ws : List Word) (each extra : ℕ) → length (place_words wide x ws each extra) ≡ letters_in ws
unfolding place_words letters_in
length_place_words wide x [] each extra = refl
length_place_words wide x (w ∷ ws) each extra =
    let next : ℕ = x + long wide w.letters + wide 32 + each + pick (ltb 0 extra) 1 0 in
    length-append (place_letters wide x w.letters) (place_words wide next ws each (extra - 1))
    ∙ ap₂ (λ (m n : ℕ). m + n) (length_place_letters wide x w.letters) (length_place_words wide next ws each (extra - 1))

-- the bytes of a word's letters, and of a line's words
abbrev pub word_bytes : (ℕ → ℕ) → ℕ → List ℕ → List ℕ
word_bytes wide x cs = letters_bytes (place_letters wide x cs)

abbrev pub words_bytes : (ℕ → ℕ) → ℕ → List Word → ℕ → ℕ → List ℕ
words_bytes wide x ws each extra = letters_bytes (place_words wide x ws each extra)

pub length_word_bytes : (wide : ℕ → ℕ) (x : ℕ) (cs : List ℕ) → length (word_bytes wide x cs) ≡ 5 * length cs
length_word_bytes wide x cs = length_letters_bytes (place_letters wide x cs) ∙ ap (λ (n : ℕ). 5 * n) (length_place_letters wide x cs)

word_bytes_more : (wide : ℕ → ℕ) (x c : ℕ) (cs : List ℕ) → word_bytes wide x (c ∷ cs) ≡ (c ∷ four x) ++ word_bytes wide (x + wide c) cs
unfolding letters_bytes place_letters
word_bytes_more wide x c cs = refl

pub words_bytes_more :
    (wide : ℕ → ℕ) (x : ℕ) (w : Word) (ws : List Word) (each extra : ℕ) →
    words_bytes wide x (w ∷ ws) each extra
    ≡ word_bytes wide x w.letters ++ words_bytes wide (x + long wide w.letters + wide 32 + each + pick (ltb 0 extra) 1 0) ws each (extra - 1)
unfolding place_words
words_bytes_more wide x w ws each extra = letters_bytes_append (place_letters wide x w.letters) _

-- the letters of a part
abbrev pub letters_at : List ℕ → List ℕ
letters_at part = letters_of (decoded part)

letter_first : {rest later : List ℕ} {c : ℕ} → FirstAtom rest (ch c) later → letters_at rest ≡ c ∷ letters_at later
unfolding letters_of
letter_first f = ap letters_of f.atoms

no_letter_first : {rest later : List ℕ} (a : Atom) → ((c : ℕ) → a ≡ Letter c → ⊥) → FirstAtom rest (atom_of a) later → letters_at rest ≡ letters_at later
unfolding letters_of
no_letter_first (Letter c) none f = absurd (none c refl)
no_letter_first Gap none f = ap letters_of f.atoms
no_letter_first (Mark l) none f = ap letters_of f.atoms
no_letter_first (Note text) none f = ap letters_of f.atoms

-- the letters before the rest of a word's numbers are written: what is left to write makes it the word
pub record Lettered (wide : ℕ → ℕ) (part : List ℕ) (x : ℕ) (before rest out : List ℕ) (letters place : ℕ) : Type 0 where
  pub bytes : written (5 * letters) (word_bytes wide place (letters_at rest)) out ≡ over (word_bytes wide x (letters_at part)) before
  pub as_long : length out ≡ length before
  pub count : letters + length (letters_at rest) ≡ length (letters_at part)
  pub near : place ≤ x + 255 * letters

module _ {wide : ℕ → ℕ} {part : List ℕ} {x : ℕ} {before rest out : List ℕ} {letters place : ℕ} (h : Lettered wide part x before rest out letters place) where
  -- there is room for the letter
  pub lettered_room : {c : ℕ} {later : List ℕ} → FirstAtom rest (ch c) later → letters < length (letters_at part)
  lettered_room f = omega (arith, h.count, ap length (letter_first f))

  pub lettered_more :
      {c w n : ℕ} {later bytes : List ℕ} → FirstAtom rest (ch c) later → 5 * length (letters_at part) ≤ length before → w ≡ wide c → w ≤ 255 → n ≡ 5 →
      bytes ≡ c ∷ four place → Lettered wide part x before later (put_mid (5 * letters) n out bytes) (letters + 1) (place + w)
  lettered_more {c} {w} {n} {later} {bytes} f fits e small five g =
      let now : put_mid (5 * letters) n out bytes ≡ written (5 * letters) (c ∷ four place) out = ap₂ (λ (k : ℕ) (bs : List ℕ). put_mid (5 * letters) k out bs) five g in
      let many : length (letters_at rest) ≡ suc (length (letters_at later)) = ap length (letter_first f) in
      let room : 5 * letters + length (c ∷ four place) ≤ length out = omega (arith, fits, h.as_long, h.count, many) in
      let left : List ℕ = word_bytes wide (place + w) (letters_at later) in
      let bytes_left : word_bytes wide place (letters_at rest) ≡ (c ∷ four place) ++ left =
      ap (word_bytes wide place) (letter_first f)
      ∙ word_bytes_more wide place c (letters_at later)
      ∙ ap (λ (d : ℕ). (c ∷ four place) ++ word_bytes wide (place + d) (letters_at later)) (sym e)
      in
      let behind : 5 * (letters + 1) ≡ 5 * letters + length (c ∷ four place) = omega arith in
      record {
        bytes =
            ap₂ (λ (n : ℕ) (o : List ℕ). written n left o) behind now
            ∙ written_more out (5 * letters) (c ∷ four place) left room
            ∙ ap (λ (bs : List ℕ). written (5 * letters) bs out) (sym bytes_left)
            ∙ h.bytes;
        as_long = ap length now ∙ length_written (5 * letters) (c ∷ four place) out room ∙ h.as_long;
        count = omega (arith, h.count, many);
        near = omega (arith, h.near, small);
      }

  pub lettered_same : {later : List ℕ} (a : Atom) → ((c : ℕ) → a ≡ Letter c → ⊥) → FirstAtom rest (atom_of a) later → Lettered wide part x before later out letters place
  lettered_same {later} a none f =
      let same : letters_at rest ≡ letters_at later = no_letter_first a none f in
      record {
        bytes = ap (λ (cs : List ℕ). written (5 * letters) (word_bytes wide place cs) out) (sym same) ∙ h.bytes;
        as_long = h.as_long;
        count = omega (arith, h.count, ap length same);
        near = h.near;
      }

  pub lettered_all : decoded rest ≡ [] → (letters ≡ length (letters_at part)) × (out ≡ over (word_bytes wide x (letters_at part)) before)
  unfolding letters_of letters_bytes place_letters
  lettered_all e = (
    omega (arith, h.count, ap (λ xs. length (letters_of xs)) e),
    sym (written_none (5 * letters) out)
        ∙ ap (λ (xs : List _). written (5 * letters) (word_bytes wide place (letters_of xs)) out) (sym e)
        ∙ h.bytes,
  )
