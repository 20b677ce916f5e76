-- Words in a row of slots of eight numbers.
--   slot_place    where slot k begins
--   slot_numbers  a word as the numbers of its slot
--   slot_word     the word that these numbers are
--   word_in       the word that slot k has
--   wide_by       how wide a letter is, by a table of those from 32 on
--   with_slot     a row with a word in slot k, and all else as it was
--   with_atom     a word with one more atom
--   part_of       the numbers of a word's atoms
--   words_from    so many words of the text, from a slot on, as the row of atoms has them
--   Lies          where a word's atoms lie, and how wide it is
--   Apart         between two words there are gaps alone
--   Splits        what splitting leaves: just the words of the atoms
use Rattle.std.specs.Prelude.{◌≡◌, ℕ, zero, suc, ◌+◌, ◌-◌, ◌*◌, ◌<◌, ◌≤◌, true, List, [], ◌∷◌, ◌++◌, length, take, drop, replicate, slice_index, slice_index_or}
use Rattle.meaning.specs.Text
use Rattle.meaning.specs.Text.{ch, gap, tag, foot}
use Rattle.meaning.specs.Lines
use Rattle.meaning.specs.Lines.{nothing_yet, split, long}
use Rattle.words.specs.Atoms.{numbers_of, numbers, decoded, all_plain, word_of}
use Rattle.words.specs.declared.slots.Word.{Word}

abbrev pub slot_place : ℕ → ℕ
slot_place k = 8 * k

-- its first number, how many it has, and its width; the others are for later
abbrev pub slot_numbers : Word → List ℕ
slot_numbers v = v.first ∷ (v.numbers ∷ (v.width ∷ (0 ∷ (0 ∷ (0 ∷ (0 ∷ (0 ∷ [])))))))

abbrev pub slot_word : List ℕ → Word
slot_word slot = record { first = slice_index slot 0; numbers = slice_index slot 1; width = slice_index slot 2 }

abbrev pub word_in : List ℕ → ℕ → Word
word_in slots k =
    record {
      first = slice_index slots (slot_place k);
      numbers = slice_index slots (slot_place k + 1);
      width = slice_index slots (slot_place k + 2);
    }

abbrev pub with_slot : List ℕ → ℕ → Word → List ℕ
with_slot slots k v = take (slot_place k) slots ++ (slot_numbers v ++ drop (slot_place (k + 1)) slots)

abbrev pub no_atoms : ℕ → Word
no_atoms first = record { first = first; numbers = 0; width = 0 }

-- 1 for what the table has not
abbrev pub wide_by : List ℕ → ℕ → ℕ
wide_by widths c = slice_index_or widths (c - 32) 1

-- a mark and a note are no wider than nothing
abbrev pub atom_width : (ℕ → ℕ) → Text.Atom → ℕ
atom_width wide (ch c) = wide c
atom_width wide gap = 0
atom_width wide (tag l) = 0
atom_width wide (foot f) = 0

abbrev pub with_atom : (ℕ → ℕ) → Word → Text.Atom → Word
with_atom wide v x = record { first = v.first; numbers = v.numbers + length (numbers_of x); width = v.width + atom_width wide x }

abbrev pub part_of : List ℕ → Word → List ℕ
part_of row v = take v.numbers (drop v.first row)

unfoldable pub words_from : List ℕ → List ℕ → ℕ → ℕ → List Lines.Word
words_from row slots first zero = []
words_from row slots first (suc n) = word_of (decoded (part_of row (word_in slots first))) ∷ words_from row slots (first + 1) n

pub record Lies (wide : ℕ → ℕ) (row : List ℕ) (v : Word) : Type 0 where
  pub some : 0 < v.numbers
  pub within : v.first + v.numbers ≤ length row
  pub whole : numbers (decoded (part_of row v)) ≡ part_of row v
  pub width : v.width ≡ long wide (word_of (decoded (part_of row v))).letters
  pub narrow : v.width ≤ 255 * v.numbers
  pub plain : all_plain (decoded row) ≡ true → all_plain (decoded (part_of row v)) ≡ true

-- up to where the next one begins
pub record Apart (row : List ℕ) (v : Word) (next : ℕ) : Type 0 where
  pub behind : v.first + v.numbers ≤ next
  pub gaps : take (next - (v.first + v.numbers)) (drop (v.first + v.numbers) row) ≡ replicate (next - (v.first + v.numbers)) 32

pub record Splits (wide : ℕ → ℕ) (row before after : List ℕ) (n : ℕ) : Type 0 where
  pub words : split (decoded row) nothing_yet ≡ words_from row after 0 n
  pub few : n ≤ length row
  pub each : (k : ℕ) → k < n → Lies wide row (word_in after k)
  pub apart : (k : ℕ) → k + 1 < n → Apart row (word_in after k) (word_in after (k + 1)).first
  -- the numbers of a slot that are for later
  pub blank : (k j : ℕ) → k < n → 3 ≤ j → j < 8 → slice_index after (slot_place k + j) ≡ 0
  pub as_long : length after ≡ length before
  pub behind : drop (slot_place n) after ≡ drop (slot_place n) before
