use Rattle.std.proofs.Common.{◌+◌}
use Rattle.layout.proofs.Lining.{Worded}
use Rattle.layout.proofs.line.Line.write_words.Given as goal

abbrev pub invariant-loop-slot : goal.invariant-loop-slot
invariant-loop-slot l =
    Worded l.self.paragraph.sheet.now.looks.widths l.self.paragraph.row.now l.self.paragraph.slots.now l.self.words.start l.self.words.end l.initial.left l.initial.out l.out (l.self.words.start + l.slot-index) l.letters l.x l.left
