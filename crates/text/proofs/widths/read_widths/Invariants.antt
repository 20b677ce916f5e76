use Rattle.text.specs.Words.{words}
use Rattle.text.proofs.Tables.{SoFar}
use Rattle.text.proofs.widths.read_widths.Given as goal

abbrev pub invariant-loop-name : goal.invariant-loop-name
invariant-loop-name l = SoFar l.table (words l.words.0.now) (words l.text)
