use Rattle.layout.proofs.LineWalks.{TakenTo}
use Rattle.layout.proofs.paragraph.BrokenParagraph.take_lines.Given as goal

abbrev pub invariant-loop-words : goal.invariant-loop-words
invariant-loop-words l = TakenTo l.self l.part l.initial.window l.initial.rows l.initial.notes l.notes l.words-iterator l.window l.rows
