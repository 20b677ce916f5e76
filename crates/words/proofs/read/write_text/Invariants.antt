use Rattle.words.proofs.Reading.{TextSoFar}
use Rattle.words.proofs.read.write_text.Given as goal

abbrev pub invariant-loop-token : goal.invariant-loop-token
invariant-loop-token l = TextSoFar l.tokens l.token-iterator.0.now l.n l.initial.row l.row
