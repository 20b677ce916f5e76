use Rattle.words.specs.Slots.{wide_by}
use Rattle.words.proofs.Parting.{Seen}
use Rattle.words.proofs.split.split_words.Given as goal

abbrev pub invariant-loop-atom : goal.invariant-loop-atom
invariant-loop-atom l = Seen (wide_by l.widths) l.row l.initial.slots l.atom-iterator.0.now l.slots l.at l.words l.word
