-- Atoms as numbers in a row.
--   numbers_of, numbers   the numbers of an atom, and of atoms one behind another: as many as they are of a paragraph
--   decoded               the atoms that a row's numbers are, as far as they are some
--   is_standing           an atom that can be read back from its numbers
--   is_plain              one that comes of tokens: its letters are bytes, and none is a 32
--   atom_of               the atom that is meant by one of the code
--   FirstAtom, TakesAtom  what it is to be the first atom of a row, and to take it off
--   letters, marks and notes of atoms, and the word that they are where there is no gap among them
--   cleared               a row whose first numbers are 0 again, for the crates above
use Rattle.std.specs.Prelude.{◌≡◌, ℕ, zero, suc, ◌+◌, ◌-◌, Bool, true, not, ◌&&◌, List, [], ◌∷◌, ◌++◌, length, take, drop, replicate, Some, None, Option, ◌==◌, nat_le, nat_lt}
use Rattle.meaning.specs.Text
use Rattle.meaning.specs.Text.{pick, ch, gap, tag, foot}
use Rattle.meaning.specs.Lines
use Rattle.meaning.specs.Promise.{letters_of, all_below}
use Rattle.words.specs.declared.atoms.Atom.{Atom}
use Rattle.words.specs.declared.atoms.Atom.TheVariants.{Letter, Gap, Mark, Note}

abbrev pub numbers_of : Text.Atom → List ℕ
numbers_of (ch c) = c ∷ []
numbers_of gap = 32 ∷ []
numbers_of (tag l) = (256 + l) ∷ []
numbers_of (foot f) = (512 + length f) ∷ f

unfoldable pub numbers : List Text.Atom → List ℕ
numbers [] = []
numbers (x ∷ xs) = numbers_of x ++ numbers xs

-- by its first number, and those that follow
abbrev pub atom_at : ℕ → List ℕ → Text.Atom
atom_at n text = pick (n == 32) gap (pick (nat_lt n 256) (ch n) (pick (nat_lt n 512) (tag (n - 256)) (foot text)))

-- a note's numbers follow the first, another atom has none
unfoldable pub decoded_in : ℕ → List ℕ → List Text.Atom
decoded_in zero ns = []
decoded_in (suc k) [] = []
decoded_in (suc k) (n ∷ ns) = pick (nat_le (n - 512) (length ns)) (atom_at n (take (n - 512) ns) ∷ decoded_in k (drop (n - 512) ns)) []

abbrev pub decoded : List ℕ → List Text.Atom
decoded ns = decoded_in (length ns) ns

abbrev pub is_letter : ℕ → Bool
is_letter c = nat_lt c 256 && not (c == 32)

abbrev pub is_standing : Text.Atom → Bool
is_standing (ch c) = is_letter c
is_standing gap = true
is_standing (tag l) = nat_lt l 256
is_standing (foot f) = true

unfoldable pub all_standing : List Text.Atom → Bool
all_standing [] = true
all_standing (x ∷ xs) = is_standing x && all_standing xs

abbrev pub is_plain : Text.Atom → Bool
is_plain (ch c) = is_letter c
is_plain gap = true
is_plain (tag l) = nat_lt l 256
is_plain (foot f) = all_below 256 f

unfoldable pub all_plain : List Text.Atom → Bool
all_plain [] = true
all_plain (x ∷ xs) = is_plain x && all_plain xs

abbrev pub atom_of : Atom → Text.Atom
atom_of (Letter c) = ch c
atom_of Gap = gap
atom_of (Mark l) = tag l
atom_of (Note text) = foot text.now

pub record FirstAtom (row : List ℕ) (a : Text.Atom) (rest : List ℕ) : Type 0 where
  pub atoms : decoded row ≡ a ∷ decoded rest
  pub form : row ≡ numbers_of a ++ rest
  pub standing : is_standing a ≡ true

abbrev pub TakesAtom : List ℕ → Option Atom → List ℕ → Type 0
TakesAtom row None rest = (decoded row ≡ []) × (rest ≡ row)
TakesAtom row (Some a) rest = FirstAtom row (atom_of a) rest

unfoldable pub marks_of : List Text.Atom → List ℕ
marks_of [] = []
marks_of (ch c ∷ xs) = marks_of xs
marks_of (gap ∷ xs) = marks_of xs
marks_of (tag l ∷ xs) = l ∷ marks_of xs
marks_of (foot f ∷ xs) = marks_of xs

unfoldable pub notes_of : List Text.Atom → List (List ℕ)
notes_of [] = []
notes_of (ch c ∷ xs) = notes_of xs
notes_of (gap ∷ xs) = notes_of xs
notes_of (tag l ∷ xs) = notes_of xs
notes_of (foot f ∷ xs) = f ∷ notes_of xs

abbrev pub word_of : List Text.Atom → Lines.Word
word_of xs = record { letters = letters_of xs; tags = marks_of xs; feet = notes_of xs }

abbrev pub cleared : ℕ → List ℕ → List ℕ
cleared n row = replicate n 0 ++ drop n row
