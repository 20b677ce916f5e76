use Rattle.words.proofs.ReadingAtoms.{SoFar}
use Rattle.words.proofs.read.write_atoms.Given as goal

abbrev pub invariant-loop-token : goal.invariant-loop-token
invariant-loop-token l = SoFar l.tokens l.token-iterator.0.now l.n l.initial.row l.row
