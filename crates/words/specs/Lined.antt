-- A paragraph's words in their best lines.
--   atoms_or_none   the atoms that are found, or no atoms
--   line_part       the numbers of a line's atoms, from its first word to its last one
--   LinePart        what a line's atoms have: just the notes of its words
--   Lined           slots that are just those of some atoms' words, and have their best lines
--   BreaksRow       what breaking a row of atoms into lines leaves in a row for slots
--   BreaksInto      what breaking a paragraph into lines leaves, in a row for its atoms and in one for its slots
use Rattle.std.specs.Prelude.{◌≡◌, ℕ, ◌+◌, ◌-◌, ◌*◌, ◌<◌, ◌≤◌, true, List, [], length, take, drop, Some, None, Option, slice_index}
use Rattle.std.specs.Option.{option_map}
use Rattle.meaning.specs.Text.{Atom}
use Rattle.meaning.specs.Lines.{Word, nothing_yet, split, feet_of}
use Rattle.linebreak.specs.Slots.{Solved}
use Rattle.words.specs.Atoms.{numbers, decoded, all_plain, notes_of}
use Rattle.words.specs.Reads.{with_atoms}
use Rattle.words.specs.Slots.{slot_place, word_in, words_from, Lies}
use Rattle.words.specs.declared.lines.Taken.{Taken}

abbrev pub atoms_or_none : Option (List Atom) → List Atom
atoms_or_none None = []
atoms_or_none (Some xs) = xs

-- how much of both rows it takes
abbrev pub taken_by : List Atom → Taken
taken_by xs = record { numbers = length (numbers xs); words = length (split xs nothing_yet) }

abbrev pub words_found : Option (List Atom) → List Word
words_found found = split (atoms_or_none found) nothing_yet

-- where word k begins, and where it ends
abbrev pub begins_at : List ℕ → ℕ → ℕ
begins_at slots k = (word_in slots k).first

abbrev pub ends_at : List ℕ → ℕ → ℕ
ends_at slots k = (word_in slots k).first + (word_in slots k).numbers

-- of the words from i to before j
abbrev pub line_part : List ℕ → List ℕ → ℕ → ℕ → List ℕ
line_part row slots i j = take (ends_at slots (j - 1) - begins_at slots i) (drop (begins_at slots i) row)

pub record LinePart (row slots : List ℕ) (i j : ℕ) : Type 0 where
  pub forward : begins_at slots i ≤ ends_at slots (j - 1)
  pub within : ends_at slots (j - 1) ≤ length row
  pub notes : feet_of (words_from row slots i (j - i)) ≡ notes_of (decoded (line_part row slots i j))
  pub plain : all_plain (decoded row) ≡ true → all_plain (decoded (line_part row slots i j)) ≡ true

pub record Lined (wide : ℕ → ℕ) (width : ℕ) (row : List ℕ) (ws : List Word) (slots : List ℕ) : Type 0 where
  pub as_long : length slots ≡ 8 * length ws
  pub words : ws ≡ words_from row slots 0 (length ws)
  pub each : (k : ℕ) → k < length ws → Lies wide row (word_in slots k)
  pub lines : (i j : ℕ) → i < j → j ≤ length ws → LinePart row slots i j
  pub solved : Solved wide width ws slots (length ws)
  -- the numbers of a slot that are for later
  pub blank : (k j : ℕ) → k < length ws → 5 ≤ j → j < 8 → slice_index slots (slot_place k + j) ≡ 0

pub record BreaksRow (wide : ℕ → ℕ) (width : ℕ) (row before after : List ℕ) (n : ℕ) : Type 0 where
  pub count : n ≡ length (split (decoded row) nothing_yet)
  pub few : n ≤ length row
  pub as_long : length after ≡ length before
  pub lines : Lined wide width row (split (decoded row) nothing_yet) (take (8 * n) after)
  pub behind : drop (8 * n) after ≡ drop (8 * n) before

pub record BreaksInto (wide : ℕ → ℕ) (width : ℕ) (found : Option (List Atom)) (before after slots lined : List ℕ) (r : Option Taken) : Type 0 where
  pub count : r ≡ option_map taken_by found
  pub atoms : after ≡ with_atoms (length before) found before
  pub plain : all_plain (atoms_or_none found) ≡ true
  pub room : length (numbers (atoms_or_none found)) ≤ length before
  pub few : length (words_found found) ≤ length (numbers (atoms_or_none found))
  pub lines : Lined wide width (numbers (atoms_or_none found)) (words_found found) (take (8 * length (words_found found)) lined)
  pub as_long : length lined ≡ length slots
  pub behind : drop (8 * length (words_found found)) lined ≡ drop (8 * length (words_found found)) slots
