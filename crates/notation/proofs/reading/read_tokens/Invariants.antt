use Rattle.std.proofs.Common.{vec_items}
use Rattle.notation.proofs.SoFar.{SoFar}
use Rattle.notation.proofs.reading.read_tokens.Given as goal

abbrev pub invariant-loop-piece : goal.invariant-loop-piece
invariant-loop-piece l = SoFar l.text (vec_items l.initial.out) l.depth l.piece-iterator.0.now (vec_items l.out)
