use Rattle.std.proofs.Common.{◌*◌, ◌+◌}
use Rattle.wire.proofs.Sizes.{Counted}
use Rattle.wire.proofs.fit.+token_measure_tokens_measure.Given as goal

-- the depth falls where a note is gone into
abbrev pub decreases-token_measure : goal.decreases-token_measure
decreases-token_measure l = 2 * l.depth

abbrev pub decreases-tokens_measure : goal.decreases-tokens_measure
decreases-tokens_measure l = 2 * l.depth + 1

abbrev pub invariant-tokens_measure-loop-token : goal.invariant-tokens_measure-loop-token
invariant-tokens_measure-loop-token l = Counted l.tokens l.depth l.measure l.token-iterator.0.now
