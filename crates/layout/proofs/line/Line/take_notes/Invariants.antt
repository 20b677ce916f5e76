use Rattle.layout.proofs.NoteSteps.{NotesTaken}
use Rattle.layout.proofs.line.Line.take_notes.Given as goal

abbrev pub invariant-loop-atom : goal.invariant-loop-atom
invariant-loop-atom l = NotesTaken l.self.paragraph l.self.words l.initial.notes l.notes l.atom-iterator.0.now l.initial.rows l.rows
