-- Paragraphs as they stand in memory, set by the looks of the book.
--   looks_of           a sheet's looks, as the meaning has them
--   SheetFits          looks and a limit by which paragraphs can be set
--   paragraph_atoms    the atoms of a paragraph's bytes; none where these are no tokens of the stage, or too many
--   paragraph_words    its words
--   paragraph_lines    its lines, which are the best ones
--   row_of, slots_of   the parts of the working part: the numbers of the atoms, and the slots of the words
--   taken_words        the words that so much of it has
--   working            how many numbers a paragraph can need: for its atoms, its words, and the words of one of its notes
--   InLines            a row of atoms and just the slots of their words, which lead through the best lines
--   Broken             so are those of the working part
--   Works              what stays of the working part
--   Noted              what stays of a part for a note's words
--   NoteBroken         so is a note's text, with its slots in a part of their own
use Rattle.std.specs.Prelude.{◌≡◌, ℕ, ◌*◌, ◌<◌, ◌≤◌, true, List, length, take, drop}
use Rattle.meaning.specs.Text.{Atom}
use Rattle.meaning.specs.Lines.{Word, Line, nothing_yet, split, best, set_lines}
use Rattle.meaning.specs.Pages.{Looks, spaced}
use Rattle.words.specs.Atoms.{decoded, all_plain}
use Rattle.words.specs.Reads.{found_within}
use Rattle.words.specs.Slots.{word_in, wide_by, Lies}
use Rattle.words.specs.Lined.{atoms_or_none, LinePart}
use Rattle.words.specs.declared.lines.Taken.{Taken}
use Rattle.linebreak.specs.Slots.{Follows}
use Rattle.layout.specs.Rows.{words_of, letters_in}
use Rattle.layout.specs.declared.sheet.Sheet.{Sheet}

abbrev pub looks_of : Sheet → Looks
looks_of s = record { wide = wide_by s.looks.widths; across = s.looks.width; rows = s.looks.rows }

pub record SheetFits (s : Sheet) : Type 0 where
  pub bulk : s.bulk ≤ 4096
  pub width : s.looks.width ≤ 1000

abbrev pub working : ℕ → ℕ
working bulk = 17 * bulk

abbrev pub paragraph_atoms : Sheet → List ℕ → List Atom
paragraph_atoms s bytes = atoms_or_none (found_within s.bulk bytes)

abbrev pub paragraph_words : Sheet → List ℕ → List Word
paragraph_words s bytes = split (paragraph_atoms s bytes) nothing_yet

-- words in their best lines
abbrev pub lines_by : Sheet → List Word → List Line
lines_by s ws = set_lines (wide_by s.looks.widths) s.looks.width ws (best (wide_by s.looks.widths) s.looks.width ws).ks

abbrev pub paragraph_lines : Sheet → List ℕ → List Line
paragraph_lines s bytes = lines_by s (paragraph_words s bytes)

abbrev pub row_of : Taken → List ℕ → List ℕ
row_of t work = take t.numbers work

abbrev pub slots_of : Sheet → Taken → List ℕ → List ℕ
slots_of s t work = take (8 * t.words) (drop s.bulk work)

-- the words that these have
abbrev pub taken_words : Sheet → List ℕ → Taken → List Word
taken_words s work t = words_of (row_of t work) (slots_of s t work)

pub record InLines (s : Sheet) (ws : List Word) (row slots : List ℕ) : Type 0 where
  pub as_many : length slots ≡ 8 * length ws
  pub few : length row ≤ 4096
  pub few_words : length ws ≤ length row
  pub across : s.looks.width ≤ 1000
  pub words : ws ≡ words_of row slots
  pub each : (k : ℕ) → k < length ws → Lies (wide_by s.looks.widths) row (word_in slots k)
  pub parts : (i j : ℕ) → i < j → j ≤ length ws → LinePart row slots i j
  pub plain : all_plain (decoded row) ≡ true
  pub letters : letters_in ws ≤ 4096
  pub follows : Follows (wide_by s.looks.widths) s.looks.width ws slots (length ws)

pub record Broken (s : Sheet) (ws : List Word) (work : List ℕ) (t : Taken) : Type 0 where
  pub numbers_few : t.numbers ≤ s.bulk
  pub words_few : t.words ≤ s.bulk
  pub room : 9 * s.bulk ≤ length work
  pub lines : InLines s ws (row_of t work) (slots_of s t work)

-- what is behind the slots that so many words could take stays as it was
pub record Noted (n : ℕ) (before after : List ℕ) : Type 0 where
  pub as_long : length after ≡ length before
  pub behind : drop (8 * n) after ≡ drop (8 * n) before

pub record NoteBroken (s : Sheet) (text before after : List ℕ) (n : ℕ) : Type 0 where
  pub lines : InLines s (split (spaced text) nothing_yet) text (take (8 * n) after)
  pub few : n ≤ length text
  pub kept : Noted (length text) before after

-- what is behind the numbers that a paragraph can need stays as it was
pub record Works (s : Sheet) (before after : List ℕ) : Type 0 where
  pub as_long : length after ≡ length before
  pub behind : drop (working s.bulk) after ≡ drop (working s.bulk) before
