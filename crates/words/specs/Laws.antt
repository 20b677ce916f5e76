-- What holds of atoms and their numbers.
--   ReadBack      plain atoms are what their numbers say, and as many numbers as they are of a paragraph
--   Readably      tokens are of the stage, and these plain atoms are theirs
--   GoodAreRead   tokens that are good for a stage with letters, spaces and notes alone are such, whatever is defined and wherever the pages are; and where such are read,
--                 into a row or the start of one, it fails only for want of room
use Rattle.std.specs.Prelude.{◌≡◌, ℕ, ◌<◌, Bool, true, ◌⊎◌, List, length, take, Some, None, Option, nat_le}
use Rattle.meaning.specs.Text.{pick, Atom, Tokens, Definition, atoms}
use Rattle.meaning.specs.Calls.{good, bulk}
use Rattle.wire.specs.Bytes.{tokens_of}
use Rattle.words.specs.Atoms.{numbers, decoded, all_plain}
use Rattle.words.specs.Reads.{stage_atoms, Reads}

pub record NumbersTell (xs : List Atom) : Type 0 where
  pub back : all_plain xs ≡ true → decoded (numbers xs) ≡ xs
  pub many : length (numbers xs) ≡ bulk xs

abbrev pub ReadBack : Type 0
ReadBack = (xs : List Atom) → NumbersTell xs

pub record Readably (ts : Tokens) (xs : List Atom) : Type 0 where
  pub value : stage_atoms ts ≡ Some xs
  pub plain : all_plain xs ≡ true

-- no kind of token but 0, a letter, 1, a space, and 4, a note
abbrev pub LettersSpacesNotes : (ℕ → Bool) → Type 0
LettersSpacesNotes can = (k : ℕ) → can k ≡ true → (k < 2) ⊎ (k ≡ 4)

abbrev pub GoodAreReadable : Type 0
GoodAreReadable =
    (can : ℕ → Bool) (ts : Tokens) (depth : ℕ) (ds : List Definition) (pg : ℕ → ℕ) → LettersSpacesNotes can → good can ts depth ≡ true →
    Readably ts (atoms ds pg ts)

pub record ReadsGood (xs : List Atom) (most : ℕ) (after : List ℕ) (r : Option ℕ) : Type 0 where
  pub plain : all_plain xs ≡ true
  pub count : r ≡ pick (nat_le (bulk xs) most) (Some (bulk xs)) None
  pub row : (n : ℕ) → r ≡ Some n → numbers xs ≡ take n after

abbrev pub GoodAreRead : Type 0
GoodAreRead =
    (can : ℕ → Bool) (bytes : List ℕ) (depth : ℕ) (ds : List Definition) (pg : ℕ → ℕ) (most : ℕ) (before after : List ℕ) (r : Option ℕ) →
    LettersSpacesNotes can → good can (tokens_of bytes) depth ≡ true → Reads bytes most before after r →
    ReadsGood (atoms ds pg (tokens_of bytes)) most after r
