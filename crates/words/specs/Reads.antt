-- Tokens read as atoms, and what reading them into a row leaves there.
--   text_letter              what a token is in a note
--   note_text                the letters of a note's tokens, 32 for a space; notes in it are left out, and there is none where a token is something else
--   stage_atom, stage_atoms  the atoms of letters, spaces and notes; none where a token is something else
--   found_within             those of bytes, where their numbers are no more than there is room for
--   with_atoms               a row of which so much is for atoms, with their numbers from its start on; without atoms there are only zeros in that part
--   Reads                    what reading leaves in such a row
--   Writes                   what one token or a note's text leaves there, or that it has no room or can't be read
use Rattle.std.specs.Prelude.{◌≡◌, ℕ, List, [], ◌∷◌, length, Some, None, Option, ◌==◌, nat_le, Bool, true, false}
use Rattle.std.specs.Option.{option_map}
use Rattle.meaning.specs.Text.{pick, Atom, ch, gap, foot, Token, letter, space, mark, page_of, note, command, given, Tokens, none, more}
use Rattle.meaning.specs.Promise.{all_below}
use Rattle.wire.specs.Bytes.{tokens_of, over}
use Rattle.words.specs.Atoms.{numbers_of, numbers, all_plain, cleared}

-- none where either is none
abbrev pub before_all : {A : Type 0} → Option A → Option (List A) → Option (List A)
before_all None xs = None
before_all (Some x) None = None
before_all (Some x) (Some xs) = Some (x ∷ xs)

abbrev pub text_letter : Token → Option ℕ
text_letter (letter c) = Some c
text_letter space = Some 32
text_letter (mark l) = None
text_letter (page_of l) = None
text_letter (note ts) = None
text_letter (command k ts) = None
text_letter given = None

-- a note in a note is left out
abbrev pub is_note : Token → Bool
is_note (letter c) = false
is_note space = false
is_note (mark l) = false
is_note (page_of l) = false
is_note (note ts) = true
is_note (command k ts) = false
is_note given = false

unfoldable pub note_text : Tokens → Option (List ℕ)
note_text none = Some []
note_text (more t ts) = pick (is_note t) (note_text ts) (before_all (text_letter t) (note_text ts))

-- the letter 32, which no good token is, counts as a space, as it does in a note
abbrev pub letter_atom : ℕ → Atom
letter_atom c = pick (c == 32) gap (ch c)

abbrev pub stage_atom : Token → Option Atom
stage_atom (letter c) = Some (letter_atom c)
stage_atom space = Some gap
stage_atom (mark l) = None
stage_atom (page_of l) = None
stage_atom (note ts) = option_map foot (note_text ts)
stage_atom (command k ts) = None
stage_atom given = None

unfoldable pub stage_atoms : Tokens → Option (List Atom)
stage_atoms none = Some []
stage_atoms (more t ts) = before_all (stage_atom t) (stage_atoms ts)

abbrev pub fitting : ℕ → Option (List ℕ) → Option (List ℕ)
fitting most None = None
fitting most (Some ns) = pick (nat_le (length ns) most) (Some ns) None

abbrev pub within : ℕ → Option (List Atom) → Option (List Atom)
within most None = None
within most (Some xs) = pick (nat_le (length (numbers xs)) most) (Some xs) None

abbrev pub found_within : ℕ → List ℕ → Option (List Atom)
found_within most bs = within most (stage_atoms (tokens_of bs))

abbrev pub how_many : Option (List Atom) → Option ℕ
how_many None = None
how_many (Some xs) = Some (length (numbers xs))

abbrev pub with_atoms : ℕ → Option (List Atom) → List ℕ → List ℕ
with_atoms most None row = cleared most row
with_atoms most (Some xs) row = over (numbers xs) row

abbrev pub PlainIfAny : Option (List Atom) → Type 0
PlainIfAny None = Unit {0}
PlainIfAny (Some xs) = all_plain xs ≡ true

pub record Reads (bytes : List ℕ) (most : ℕ) (before after : List ℕ) (r : Option ℕ) : Type 0 where
  pub count : r ≡ how_many (found_within most bytes)
  pub holds : after ≡ with_atoms most (found_within most bytes) before
  pub plain : PlainIfAny (found_within most bytes)

-- the same, but that without atoms the row is left as it then is
abbrev pub HoldsIfAny : Option (List Atom) → List ℕ → List ℕ → Type 0
HoldsIfAny None before after = Unit {0}
HoldsIfAny (Some xs) before after = after ≡ over (numbers xs) before

pub record ReadsSome (bytes before after : List ℕ) (r : Option ℕ) : Type 0 where
  pub count : r ≡ how_many (found_within (length before) bytes)
  pub holds : HoldsIfAny (found_within (length before) bytes) before after
  pub plain : PlainIfAny (found_within (length before) bytes)

abbrev pub OverIfAny : Option (List ℕ) → List ℕ → List ℕ → Type 0
OverIfAny None before after = Unit {0}
OverIfAny (Some ns) before after = after ≡ over ns before

pub record Writes (found : Option (List ℕ)) (before after : List ℕ) (r : Option ℕ) : Type 0 where
  pub count : r ≡ option_map length (fitting (length before) found)
  pub holds : OverIfAny (fitting (length before) found) before after

abbrev pub SmallIfAny : Option (List ℕ) → Type 0
SmallIfAny None = Unit {0}
SmallIfAny (Some f) = all_below 256 f ≡ true

abbrev pub AtomPlainIfAny : Option Atom → Type 0
AtomPlainIfAny None = Unit {0}
AtomPlainIfAny (Some x) = Rattle.words.specs.Atoms.is_plain x ≡ true
