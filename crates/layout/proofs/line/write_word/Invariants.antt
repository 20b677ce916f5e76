use Rattle.words.specs.Slots.{wide_by}
use Rattle.layout.proofs.Placing.{Lettered}
use Rattle.layout.proofs.line.write_word.Given as goal

abbrev pub invariant-loop-atom : goal.invariant-loop-atom
invariant-loop-atom l = Lettered (wide_by l.widths) l.part l.x l.initial.out l.atom-iterator.0.now l.out l.letters l.place
