use Rattle.layout.proofs.LineWalks.{WalkedTo}
use Rattle.layout.proofs.paragraph.BrokenParagraph.search.Given as goal

abbrev pub invariant-loop-words : goal.invariant-loop-words
invariant-loop-words l = WalkedTo l.self l.initial.search l.initial.notes l.notes l.words-iterator l.search
