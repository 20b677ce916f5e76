use Rattle.std.proofs.Common.{add_assoc, arith}
use Rattle.layout.proofs.Lining.{summed_more, summed_le, summed_all}
use Rattle.layout.proofs.SetLines.{word_here, widths_le_line}
use Rattle.layout.proofs.line.Line.width.Goals as goal

pub overflow_add-width : goal.overflow_add-width
overflow_add-width c =
    let l = c.args.self.now in
    let (there, value, lies) = word_here c.slots-slot-items.ensures l.within c.loop-slot-test.true c.from-width.ensures in
    let more = summed_more c.loop-slot.invariant c.from-width.result there value in
    omega (arith, summed_le more, widths_le_line l.paragraph l.words l.within)

pub loop-slot-preserved : goal.loop-slot-preserved
loop-slot-preserved c =
    let l = c.args.self.now in
    let (there, value, lies) = word_here c.slots-slot-items.ensures l.within c.loop-slot-test.true c.from-width.ensures in
    rw (add_assoc l.words.start c.loop-slot.slot-index 1) at (summed_more c.loop-slot.invariant c.from-width.result there value)

pub returns : goal.returns
returns c = summed_all c.loop-slot.invariant (omega (arith, c.loop-slot-test.false, c.slots-slot-items.ensures.as_many))
