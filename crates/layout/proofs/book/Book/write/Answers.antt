use Rattle.std.proofs.Common.{List, ℕ, sym, ap, ◌∙◌, subst, length}
use Rattle.meaning.specs.Lines.{Line}
use Rattle.store.specs.Paragraphs.{paragraphs_left}
use Rattle.layout.specs.Sheets.{looks_of, paragraph_lines}
use Rattle.layout.specs.Paragraphs.{part_rows}
use Rattle.layout.specs.Finishes.{Takes}
use Rattle.layout.specs.Books.{lines_in}
use Rattle.layout.specs.Found.{window_of, inside, passed}
use Rattle.layout.specs.declared.rows.Window.{Window}
use Rattle.layout.proofs.Keeping.{keeps_more}
use Rattle.layout.proofs.Taking.{takes_more, takes_done}
use Rattle.layout.proofs.Windows.{part_append, inside_append, inside_none, part_nil, part_none}
use Rattle.layout.proofs.book.Book.write.Goals as goal
use Rattle.layout.proofs.book.Book.write.Goals.{then-window-eq0-via-then-window-eq0, then-window-eq0-via-else-window-eq0+then-rows-eq0}

pub loop-bytes-preserved : goal.loop-bytes-preserved
loop-bytes-preserved c =
    let s = c.args.self.now.sheet in
    let g = looks_of s in
    let held = c.loop-bytes.invariant in
    let window = c.loop-bytes.window in
    let mine : List Line = paragraph_lines s c.in-Some.bytes.now in
    let behind : List (List ℕ) = paragraphs_left c.next.new.self in
    let rows = rw held.same.sheet at c.take_paragraph-window.ensures.rows in
    let value = rw held.same.sheet at c.take_paragraph-window.ensures.value in
    let parts =
    ap (λ (ps : List (List ℕ)). part_rows c.args.part g (inside window (lines_in s ps))) c.in-Some.ensures.steps
    ∙ ap (part_rows c.args.part g) (inside_append window mine (lines_in s behind))
    ∙ part_append c.args.part g (inside window mine) (inside (passed window (length mine)) (lines_in s behind))
    in
    record {
      can_next = tt;
      finite = tt;
      same = keeps_more c.args.self.now c.loop-bytes.self _ held.same c.take_paragraph-window.ensures.same;
      taken = subst (λ (w : Window). Takes c.args.rows.now c.take_paragraph-window.new.rows (part_rows c.args.part g (inside (window_of c.args.found) (lines_in s (paragraphs_left c.args.found.from.paragraphs)))) (part_rows c.args.part g (inside w (lines_in s behind)))) (sym value)
          (takes_more held.taken c.take_paragraph-window.new.rows (part_rows c.args.part g (inside window mine)) (part_rows c.args.part g (inside (passed window (length mine)) (lines_in s behind))) parts rows);
    }

pub returns-in-None-clause-rows : goal.returns-in-None-clause-rows
returns-in-None-clause-rows c =
    let s = c.args.self.now.sheet in
    let all = part_rows c.args.part (looks_of s) (inside (window_of c.args.found) (lines_in s (paragraphs_left c.args.found.from.paragraphs))) in
    subst (Takes c.args.rows.now c.loop-bytes.rows all)
    (ap (λ (ps : List (List ℕ)). part_rows c.args.part (looks_of s) (inside c.loop-bytes.window (lines_in s ps))) c.in-None.ensures.steps.0 ∙ part_none c.args.part (looks_of s) c.loop-bytes.window)
    c.loop-bytes.invariant.taken

pub returns-then-window-eq0-clause-rows : goal.returns-then-window-eq0-clause-rows
returns-then-window-eq0-clause-rows c =
    let s = c.args.self.now.sheet in
    let all = part_rows c.args.part (looks_of s) (inside (window_of c.args.found) (lines_in s (paragraphs_left c.args.found.from.paragraphs))) in
    let left = lines_in s (paragraphs_left c.loop-bytes.bytes-iterator) in
    elim c.then-window-eq0.branch [
      | then-window-eq0-via-then-window-eq0 w ↦
          subst (Takes c.args.rows.now c.loop-bytes.rows all)
          (ap (part_rows c.args.part (looks_of s)) (inside_none c.loop-bytes.window left w.if-window-eq0.true) ∙ part_nil c.args.part (looks_of s))
          c.loop-bytes.invariant.taken
      | then-window-eq0-via-else-window-eq0+then-rows-eq0 w ↦ takes_done c.loop-bytes.invariant.taken w.if-rows-eq0.true
    ]
