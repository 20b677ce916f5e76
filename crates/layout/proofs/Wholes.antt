-- The lines of a paragraph that was broken, each with its row and its notes, as its slots give them.
use Rattle.std.proofs.Common.{◌≡◌, ℕ, suc, ◌+◌, ◌-◌, Bool, List, [], ◌∷◌, map, length, drop, sym, refl, ap, ◌∙◌, subst, ap₂, arith}
use Rattle.std.specs.List.{AllByRecursion as All}
use Rattle.std.specs.declared.ops.Range.{Range}
use Rattle.std.proofs.lemmas.List.{append-nil, drop-drop}
use Rattle.meaning.specs.Lines.{Word, Line, best, set_line, set_lines, tags_of, feet_of}
use Rattle.meaning.specs.Pages.{all_feet}
use Rattle.meaning.specs.Calls.{letters_of}
use Rattle.meaning.specs.Promise.{notes_of}
use Rattle.words.specs.Slots.{words_from, wide_by}
use Rattle.linebreak.specs.Lines.{places, lines_of}
use Rattle.layout.specs.Rows.{words_of}
use Rattle.layout.specs.Sheets.{looks_of}
use Rattle.layout.specs.Fills.{heights}
use Rattle.layout.specs.Paragraphs.{line_words, line_row, line_notes, broken_lines, part_rows, line_part_rows, Within}
use Rattle.layout.specs.declared.paragraph.BrokenParagraph.{BrokenParagraph}
use Rattle.layout.specs.declared.rows.Part.{Part}
use Rattle.layout.specs.declared.rows.Part.TheVariants.{Lines, Notes}
use Rattle.layout.proofs.LineSteps.{how_many, words_there, last_line, lines_are, all_within}

module _ (p : BrokenParagraph) where
  abbrev pub line_at : Range ℕ → Line
  line_at line = record { letters = line_row p line; tags = tags_of (line_words p line); feet = feet_of (line_words p line) }

  abbrev ws : List Word
  ws = words_of p.row.now p.slots.now

  same_line : (vs us : List Word) (a b : Bool) → vs ≡ us → a ≡ b → ◌≡◌ {A = Line} (record { letters = set_line (wide_by p.sheet.now.looks.widths) p.sheet.now.looks.width vs a; tags = tags_of vs; feet = feet_of vs }) (record { letters = set_line (wide_by p.sheet.now.looks.widths) p.sheet.now.looks.width us b; tags = tags_of us; feet = feet_of us })
  same_line vs us a b e f = λ i. record { letters = set_line (wide_by p.sheet.now.looks.widths) p.sheet.now.looks.width (e i) (f i); tags = tags_of (e i); feet = feet_of (e i) }

  lines_placed :
      (k : ℕ) (sizes : List ℕ) → All (Within p) (places k sizes) →
      set_lines (wide_by p.sheet.now.looks.widths) p.sheet.now.looks.width (drop k ws) sizes ≡ map line_at (places k sizes)
  unfolding places set_lines
  lines_placed k [] h = refl
  lines_placed k (size ∷ sizes) h =
      let here : size ≡ k + size - k = omega arith in
      ap₂ (λ (x : Line) (xs : List Line). x ∷ xs)
      (same_line _ _ _ _ (words_there p.sheet.now p.row.now p.slots.now p.lines k size h.0.1 ∙ ap (words_from p.row.now p.slots.now k) here) (last_line p.sheet.now p.row.now p.slots.now p.lines k size h.0.1))
      (ap (λ (vs : List Word). set_lines (wide_by p.sheet.now.looks.widths) p.sheet.now.looks.width vs sizes) (drop-drop size k ws) ∙ lines_placed (k + size) sizes h.1)

  pub within_all : All (Within p) (lines_of p.slots.now)
  within_all = all_within p.sheet.now p.row.now p.slots.now p.lines

  pub lines_whole : broken_lines p ≡ map line_at (lines_of p.slots.now)
  lines_whole =
      lines_placed 0 (best (wide_by p.sheet.now.looks.widths) p.sheet.now.looks.width ws).ks (subst (All (Within p)) (lines_are p.sheet.now p.row.now p.slots.now p.lines) within_all)
      ∙ ap (map line_at) (sym (lines_are p.sheet.now p.row.now p.slots.now p.lines))

  -- the notes of a line's words are those among its atoms
  pub line_feet : (line : Range ℕ) → Within p line → (line_at line).feet ≡ line_notes p line
  line_feet line w = (p.lines.parts line.start line.end w.0 (omega (arith, w.1, how_many p.sheet.now p.row.now p.slots.now p.lines))).notes

  abbrev pub line_height : Range ℕ → ℕ
  line_height line = suc (length (all_feet (looks_of p.sheet.now) (line_notes p line)))

  pub heights_are : (lines : List (Range ℕ)) → All (Within p) lines → heights (looks_of p.sheet.now) (map line_at lines) ≡ map line_height lines
  heights_are [] h = refl
  heights_are (line ∷ lines) h =
      ap₂ (λ (n : ℕ) (ns : List ℕ). n ∷ ns) (ap (λ (fs : List (List ℕ)). suc (length (all_feet (looks_of p.sheet.now) fs))) (line_feet line h.0)) (heights_are lines h.1)

  -- one line as rows
  pub part_one : (part : Part) (line : Range ℕ) → Within p line → part_rows part (looks_of p.sheet.now) (line_at line ∷ []) ≡ line_part_rows part p line
  unfolding letters_of notes_of
  part_one Lines line w = refl
  part_one Notes line w = ap letters_of (append-nil (all_feet (looks_of p.sheet.now) (line_at line).feet)) ∙ ap (λ (fs : List (List ℕ)). letters_of (all_feet (looks_of p.sheet.now) fs)) (line_feet line w)
