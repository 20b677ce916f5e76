use Rattle.std.proofs.Common.{sym, ◌∙◌}
use Rattle.layout.proofs.LineWalks.{taken_start, taken_outside, taken_inside, taken_all}
use Rattle.layout.proofs.paragraph.BrokenParagraph.take_lines.Goals as goal
use Rattle.layout.proofs.paragraph.BrokenParagraph.take_lines.Goals.{then-is_inside, else-is_inside}

pub loop-words-init : goal.loop-words-init
loop-words-init c = rw (c.into_iter-words-iterator.ensures.into_iter_gives ∙ c.lines-words-items.ensures) (taken_start c.args.self.now c.args.part c.args.window c.args.rows.now c.args.notes.now)

pub loop-words-preserved : goal.loop-words-preserved
loop-words-preserved c =
    elim c.if-is_inside.branch [
      | then-is_inside w ↦ rw (w.rows-is, w.notes-is) (taken_inside c.loop-words.invariant c.in-Some.ensures.steps c.passed-window.ensures (sym w.if-is_inside.ensures) w.take.ensures.rows w.take.ensures.notes)
      | else-is_inside w ↦ rw (w.rows-is, w.notes-is) (taken_outside c.loop-words.invariant c.in-Some.ensures.steps c.passed-window.ensures (sym w.if-is_inside.ensures))
    ]

pub returns-clause-value : goal.returns-clause-value
returns-clause-value c = (taken_all c.loop-words.invariant c.in-None.ensures.steps.0).0

pub returns-clause-rows : goal.returns-clause-rows
returns-clause-rows c = (taken_all c.loop-words.invariant c.in-None.ensures.steps.0).1
