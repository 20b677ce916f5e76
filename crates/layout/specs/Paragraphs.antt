-- A broken paragraph, line by line.
--   broken_words   its words
--   broken_lines   its lines
--   line_words     the words of one of them
--   line_atoms     the atoms of one of them
--   line_widths    how wide the slots say that these are, added up
--   is_last        whether it ends with the last word
--   line_row       the row that it is
--   line_bytes     the same in bytes
--   line_notes     the notes that belong to it
--   part_rows      of lines, the rows that they are, or those of their notes
--   line_part_rows the same of a line of the paragraph
--   Within         its places are places of words
--   SlotsOf        the slots of its words
use Rattle.std.specs.Prelude.{◌≡◌, ℕ, ◌+◌, ◌-◌, ◌/◌, ◌<◌, ◌≤◌, Bool, List, [], ◌∷◌, length, ◌==◌, slice_index_or}
use Rattle.std.specs.declared.ops.Range.{Range}
use Rattle.meaning.specs.Text.{Atom}
use Rattle.meaning.specs.Lines.{Word, Line, Placed, set_line}
use Rattle.meaning.specs.Pages.{Looks, all_feet}
use Rattle.meaning.specs.Calls.{letters_of}
use Rattle.meaning.specs.Promise.{notes_of}
use Rattle.wire.specs.Bytes.{row_bytes}
use Rattle.words.specs.Atoms
use Rattle.words.specs.Atoms.{decoded}
use Rattle.words.specs.Slots.{slot_word, word_in, words_from, wide_by}
use Rattle.words.specs.Lined.{line_part}
use Rattle.layout.specs.Rows.{words_of, widths_from}
use Rattle.layout.specs.Sheets.{looks_of, lines_by}
use Rattle.layout.specs.declared.paragraph.BrokenParagraph.{BrokenParagraph}
use Rattle.layout.specs.declared.rows.Part.{Part}
use Rattle.layout.specs.declared.rows.Part.TheVariants.{Lines, Notes}

abbrev pub broken_words : BrokenParagraph → List Word
broken_words p = words_of p.row.now p.slots.now

abbrev pub broken_lines : BrokenParagraph → List Line
broken_lines p = lines_by p.sheet.now (broken_words p)

abbrev pub line_words : BrokenParagraph → Range ℕ → List Word
line_words p line = words_from p.row.now p.slots.now line.start (line.end - line.start)

abbrev pub line_atoms : BrokenParagraph → Range ℕ → List Atom
line_atoms p line = decoded (line_part p.row.now p.slots.now line.start line.end)

abbrev pub line_widths : BrokenParagraph → Range ℕ → ℕ
line_widths p line = widths_from p.slots.now line.start (line.end - line.start)

abbrev pub is_last : BrokenParagraph → Range ℕ → Bool
is_last p line = line.end == length p.slots.now / 8

abbrev pub line_row : BrokenParagraph → Range ℕ → List Placed
line_row p line = set_line (wide_by p.sheet.now.looks.widths) p.sheet.now.looks.width (line_words p line) (is_last p line)

abbrev pub line_bytes : BrokenParagraph → Range ℕ → List ℕ
line_bytes p line = row_bytes (line_row p line)

abbrev pub line_notes : BrokenParagraph → Range ℕ → List (List ℕ)
line_notes p line = Atoms.notes_of (line_atoms p line)

abbrev pub part_rows : Part → Looks → List Line → List (List Placed)
part_rows Lines g ls = letters_of ls
part_rows Notes g ls = letters_of (notes_of g ls)

abbrev pub line_part_rows : Part → BrokenParagraph → Range ℕ → List (List Placed)
line_part_rows Lines p line = line_row p line ∷ []
line_part_rows Notes p line = letters_of (all_feet (looks_of p.sheet.now) (line_notes p line))

abbrev pub Within : BrokenParagraph → Range ℕ → Type 0
Within p line = (line.start < line.end) × (line.end ≤ length p.slots.now / 8)

-- what the slots of a line's words are, one by one
pub record SlotsOf (p : BrokenParagraph) (line : Range ℕ) (slots : List (List ℕ)) : Type 0 where
  pub as_many : length slots ≡ line.end - line.start
  pub word : (k : ℕ) (d : List ℕ) → k < line.end - line.start → slot_word (slice_index_or slots k d) ≡ word_in p.slots.now (line.start + k)
