use Rattle.std.proofs.Common.{◌+◌}
use Rattle.layout.proofs.Lining.{Summed}
use Rattle.layout.proofs.line.Line.width.Given as goal

abbrev pub invariant-loop-slot : goal.invariant-loop-slot
invariant-loop-slot l = Summed l.self.paragraph.slots.now l.self.words.start l.self.words.end (l.self.words.start + l.slot-index) l.width
