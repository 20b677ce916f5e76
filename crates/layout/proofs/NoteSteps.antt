-- The notes of a line, found one after the other among its atoms.
use Rattle.std.proofs.Common.{◌≡◌, ℕ, suc, ◌+◌, ◌-◌, ◌*◌, ◌≤◌, true, List, [], ◌∷◌, length, take, drop, sym, refl, ap, ◌∙◌, subst, arith}
use Rattle.std.specs.Borrow.{Bor}
use Rattle.std.specs.declared.ops.Range.{Range}
use Rattle.std.proofs.lemmas.List.{length-append, length-take-le, length-drop, drop-drop}
use Rattle.std.proofs.lemmas.Bool.{and_parts}
use Rattle.meaning.specs.Text
use Rattle.meaning.specs.Text.{ch, gap, tag, foot}
use Rattle.meaning.specs.Lines.{Word, Placed}
use Rattle.meaning.specs.Pages.{Looks, foot_lines, all_feet}
use Rattle.meaning.specs.Calls.{letters_of}
use Rattle.meaning.specs.Promise.{all_below}
use Rattle.words.specs.Atoms.{numbers_of, decoded, is_plain, all_plain, atom_of, notes_of, FirstAtom}
use Rattle.words.specs.Lined.{begins_at, ends_at, line_part}
use Rattle.words.specs.declared.atoms.Atom as Code
use Rattle.words.specs.declared.atoms.Atom.TheVariants.{Letter, Gap, Mark, Note}
use Rattle.linebreak.specs.Lines.{lines_of}
use Rattle.layout.specs.Rows.{words_of}
use Rattle.layout.specs.Sheets.{looks_of, lines_by, InLines, Noted, NoteBroken}
use Rattle.layout.specs.Paragraphs.{line_notes, Within}
use Rattle.layout.specs.Finishes.{Takes, TakesAll}
use Rattle.layout.specs.declared.sheet.Sheet.{Sheet}
use Rattle.layout.specs.declared.rows.RowWriter.{RowWriter}
use Rattle.layout.specs.declared.paragraph.BrokenParagraph.{BrokenParagraph}
use Rattle.layout.proofs.LineSteps.{how_many, as_many_lines, no_more_lines}
use Rattle.layout.proofs.BookLines.{letters_append}
use Rattle.layout.proofs.Taking.{takes_none, takes_more, takes_done}

pub noted_same : (n : ℕ) (xs : List ℕ) → Noted n xs xs
noted_same n xs = record { as_long = refl; behind = refl }

-- a shorter note leaves what is behind a longer one
pub noted_more : (m n : ℕ) (a b c : List ℕ) → m ≤ n → Noted n a b → Noted m b c → Noted n a c
noted_more m n a b c l p q =
    let left : 8 * m + (8 * n - 8 * m) ≡ 8 * n = omega (arith, l) in
    let past : (xs : List ℕ) → drop (8 * n - 8 * m) (drop (8 * m) xs) ≡ drop (8 * n) xs = λ xs. drop-drop (8 * n - 8 * m) (8 * m) xs ∙ ap (λ (k : ℕ). drop k xs) left in
    record { as_long = q.as_long ∙ p.as_long; behind = sym (past c) ∙ ap (drop (8 * n - 8 * m)) q.behind ∙ past b ∙ p.behind }

-- slots that are those of a note's words
pub note_lines : {s : Sheet} {text before after : List ℕ} {n : ℕ} → NoteBroken s text before after n → InLines s (words_of text (take (8 * n) after)) text (take (8 * n) after)
note_lines {s} {text} {before} {after} {n} b = subst (λ (ws : List Word). InLines s ws text (take (8 * n) after)) b.lines.words b.lines

-- an atom of the code that is a note, or none
pub no_foot : (a : Code.Atom) → ((text : Bor (List ℕ)) → a ≡ Note text → ⊥) → (f : List ℕ) → atom_of a ≡ foot f → ⊥
no_foot (Letter c) h f e = cc
no_foot Gap h f e = cc
no_foot (Mark l) h f e = cc
no_foot (Note text) h f e = absurd (h text refl)

-- what has been found of a line's notes, before the rest of its atoms
pub record Finding (p : BrokenParagraph) (before notes rest : List ℕ) : Type 0 where
  pub plain : all_plain (decoded rest) ≡ true
  pub few : length rest ≤ length p.row.now
  pub kept : Noted (length p.row.now) before notes

pub finding_start : (p : BrokenParagraph) (line : Range ℕ) (before rest : List ℕ) → Within p line → rest ≡ line_part p.row.now p.slots.now line.start line.end → Finding p before before rest
finding_start p line before rest w e =
    let part = p.lines.parts line.start line.end w.0 (omega (arith, w.1, how_many p.sheet.now p.row.now p.slots.now p.lines)) in
    record {
      plain = ap (λ (ns : List ℕ). all_plain (decoded ns)) e ∙ part.plain p.lines.plain;
      few =
          let from : List ℕ = drop (begins_at p.slots.now line.start) p.row.now in
          let long : length from ≡ length p.row.now - begins_at p.slots.now line.start = length-drop (begins_at p.slots.now line.start) p.row.now in
          omega (arith, ap length e, length-take-le (ends_at p.slots.now (line.end - 1) - begins_at p.slots.now line.start) from (omega (arith, part.within, long)), part.within);
      kept = noted_same (length p.row.now) before;
    }

module _ {p : BrokenParagraph} {before notes rest : List ℕ} (f : Finding p before notes rest) where
  module _ {x : Text.Atom} {later : List ℕ} (first : FirstAtom rest x later) where
    parts : (is_plain x ≡ true) × (all_plain (decoded later) ≡ true)
    unfolding all_plain
    parts = and_parts (is_plain x) (all_plain (decoded later)) (sym (ap all_plain first.atoms) ∙ f.plain)

    pub shorter : length rest ≡ length (numbers_of x) + length later
    shorter = ap length first.form ∙ length-append (numbers_of x) later

    -- an atom that is no note
    pub finding_other : (Noted (length p.row.now) before notes) → Finding p before notes later
    finding_other k = record { plain = parts.1; few = omega (arith, f.few, shorter); kept = k }

    pub same_notes : ((f : List ℕ) → x ≡ foot f → ⊥) → notes_of (decoded rest) ≡ notes_of (decoded later)
    unfolding notes_of
    same_notes other = ap notes_of first.atoms ∙ go x other
      where
        go : (y : Text.Atom) → ((f : List ℕ) → y ≡ foot f → ⊥) → notes_of (y ∷ decoded later) ≡ notes_of (decoded later)
        go (ch c) h = refl
        go gap h = refl
        go (tag l) h = refl
        go (foot f) h = absurd (h f refl)

    module _ {text : List ℕ} (is : x ≡ foot text) where
      pub next_note : notes_of (decoded rest) ≡ text ∷ notes_of (decoded later)
      unfolding notes_of
      next_note = ap notes_of first.atoms ∙ ap (λ (y : Text.Atom). notes_of (y ∷ decoded later)) is

      pub note_small : all_below 256 text ≡ true
      note_small = sym (ap is_plain is) ∙ parts.0

      pub note_long : length rest ≡ suc (length text) + length later
      note_long = shorter ∙ ap (λ (y : Text.Atom). length (numbers_of y) + length later) is

      pub note_few : length text ≤ 4096
      note_few = omega (arith, note_long, f.few, p.lines.few)

      pub note_room : 8 * length p.row.now ≤ length before → 8 * length text ≤ length notes
      note_room l = omega (arith, l, note_long, f.few, f.kept.as_long)

      pub finding_note : {after : List ℕ} {n : ℕ} → NoteBroken p.sheet.now text notes after n → Finding p before after later
      finding_note {after} b = record { plain = parts.1; few = omega (arith, f.few, shorter); kept = noted_more (length text) (length p.row.now) before notes after (omega (arith, note_long, f.few)) f.kept b.kept }

-- how many rows the notes take that were found
abbrev feet_count : BrokenParagraph → List ℕ → ℕ
feet_count p rest = length (all_feet (looks_of p.sheet.now) (notes_of (decoded rest)))

pub record Counting (p : BrokenParagraph) (line : Range ℕ) (before notes rest : List ℕ) (rows : ℕ) : Type 0 where
  pub finding : Finding p before notes rest
  pub total : rows + feet_count p rest ≡ suc (length (all_feet (looks_of p.sheet.now) (line_notes p line)))
  pub few : rows + length rest ≤ 4097

pub counting_start : (p : BrokenParagraph) (line : Range ℕ) (before rest : List ℕ) → Within p line → rest ≡ line_part p.row.now p.slots.now line.start line.end → Counting p line before before rest 1
counting_start p line before rest w e =
    let f = finding_start p line before rest w e in
    record { finding = f; total = omega (arith, ap (feet_count p) e); few = omega (arith, f.few, p.lines.few) }

module _ {p : BrokenParagraph} {line : Range ℕ} {before notes rest : List ℕ} {rows : ℕ} (c : Counting p line before notes rest rows) {x : Text.Atom} {later : List ℕ} (first : FirstAtom rest x later) where
  pub counting_other : ((f : List ℕ) → x ≡ foot f → ⊥) → Counting p line before notes later rows
  counting_other other =
      record {
        finding = finding_other c.finding first c.finding.kept;
        total = omega (arith, c.total, ap (λ (fs : List (List ℕ)). length (all_feet (looks_of p.sheet.now) fs)) (same_notes c.finding first other));
        few = omega (arith, c.few, shorter c.finding first);
      }

  pub counting_note : {text : List ℕ} → x ≡ foot text → {after : List ℕ} {n k : ℕ} → (b : NoteBroken p.sheet.now text notes after n) → k ≡ length (lines_of (take (8 * n) after)) → Counting p line before after later (rows + k)
  unfolding all_feet
  counting_note {text} is {after} {n} {k} b e =
      let lines : InLines p.sheet.now (words_of text (take (8 * n) after)) text (take (8 * n) after) = note_lines b in
      let many : k ≡ length (foot_lines (looks_of p.sheet.now) text) =
      e ∙ sym (as_many_lines p.sheet.now text (take (8 * n) after) lines) ∙ ap (λ (ws : List Word). length (lines_by p.sheet.now ws)) (sym b.lines.words)
      in
      let next : feet_count p rest ≡ length (foot_lines (looks_of p.sheet.now) text) + feet_count p later =
      ap (λ (fs : List (List ℕ)). length (all_feet (looks_of p.sheet.now) fs)) (next_note c.finding first is) ∙ length-append (foot_lines (looks_of p.sheet.now) text) (all_feet (looks_of p.sheet.now) (notes_of (decoded later)))
      in
      record {
        finding = finding_note c.finding first is b;
        total = omega (arith, c.total, many, next);
        few = omega (arith, c.few, note_long c.finding first is, e, no_more_lines p.sheet.now text (take (8 * n) after) lines, lines.few_words);
      }

pub counted_all : {p : BrokenParagraph} {line : Range ℕ} {before notes rest : List ℕ} {rows : ℕ} → Counting p line before notes rest rows → decoded rest ≡ [] → rows ≡ suc (length (all_feet (looks_of p.sheet.now) (line_notes p line)))
unfolding notes_of all_feet
counted_all {p} c e = omega (arith, c.total, ap (λ (xs : List Text.Atom). length (all_feet (looks_of p.sheet.now) (notes_of xs))) e)

-- the rows of the notes that are still to be taken
abbrev feet_rows : BrokenParagraph → List (List ℕ) → List (List Placed)
feet_rows p fs = letters_of (all_feet (looks_of p.sheet.now) fs)

pub record NotesTaken (p : BrokenParagraph) (line : Range ℕ) (before notes rest : List ℕ) (from now : RowWriter) : Type 0 where
  pub finding : Finding p before notes rest
  pub taken : Takes from now (feet_rows p (line_notes p line)) (feet_rows p (notes_of (decoded rest)))

pub notes_start : (p : BrokenParagraph) (line : Range ℕ) (before rest : List ℕ) (rows : RowWriter) → Within p line → rest ≡ line_part p.row.now p.slots.now line.start line.end → NotesTaken p line before before rest rows rows
notes_start p line before rest rows w e =
    record {
      finding = finding_start p line before rest w e;
      taken = subst (λ (ns : List ℕ). Takes rows rows (feet_rows p (line_notes p line)) (feet_rows p (notes_of (decoded ns)))) (sym e) (takes_none rows (feet_rows p (line_notes p line)));
    }

module _ {p : BrokenParagraph} {line : Range ℕ} {before notes rest : List ℕ} {from now : RowWriter} (t : NotesTaken p line before notes rest from now) where
  module _ {x : Text.Atom} {later : List ℕ} (first : FirstAtom rest x later) where
    pub notes_other : ((f : List ℕ) → x ≡ foot f → ⊥) → NotesTaken p line before notes later from now
    notes_other other =
        record {
          finding = finding_other t.finding first t.finding.kept;
          taken = subst (λ (fs : List (List ℕ)). Takes from now (feet_rows p (line_notes p line)) (feet_rows p fs)) (same_notes t.finding first other) t.taken;
        }

    pub notes_note :
        {text : List ℕ} → x ≡ foot text → {after : List ℕ} {n : ℕ} → (b : NoteBroken p.sheet.now text notes after n) → {next : RowWriter} →
        TakesAll now next (letters_of (lines_by p.sheet.now (words_of text (take (8 * n) after)))) → NotesTaken p line before after later from next
    unfolding all_feet
    notes_note {text} is {after} {n} b {next} u =
        let g : Looks = looks_of p.sheet.now in
        let mine : letters_of (lines_by p.sheet.now (words_of text (take (8 * n) after))) ≡ letters_of (foot_lines g text) = ap (λ (ws : List Word). letters_of (lines_by p.sheet.now ws)) (sym b.lines.words) in
        record {
          finding = finding_note t.finding first is b;
          taken = takes_more t.taken next (letters_of (foot_lines g text)) (feet_rows p (notes_of (decoded later)))
              (ap (feet_rows p) (next_note t.finding first is) ∙ letters_append (foot_lines g text) (all_feet g (notes_of (decoded later))))
              (subst (TakesAll now next) mine u);
        }

  pub notes_all : decoded rest ≡ [] → TakesAll from now (feet_rows p (line_notes p line))
  unfolding notes_of all_feet letters_of
  notes_all e = subst (λ (xs : List Text.Atom). Takes from now (feet_rows p (line_notes p line)) (feet_rows p (notes_of xs))) e t.taken

  pub notes_done : now.left ≡ 0 → TakesAll from now (feet_rows p (line_notes p line))
  notes_done e = takes_done t.taken e
