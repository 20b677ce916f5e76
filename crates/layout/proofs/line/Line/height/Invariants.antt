use Rattle.layout.proofs.NoteSteps.{Counting}
use Rattle.layout.proofs.line.Line.height.Given as goal

abbrev pub invariant-loop-atom : goal.invariant-loop-atom
invariant-loop-atom l = Counting l.self.paragraph l.self.words l.initial.notes l.notes l.atom-iterator.0.now l.rows
