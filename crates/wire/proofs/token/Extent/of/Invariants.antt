use Rattle.std.proofs.Common.{◌≡◌, ◌+◌, ◌≤◌, length}
use Rattle.wire.proofs.Levels.{level}
use Rattle.wire.proofs.token.Extent.of.Given as goal

-- what is left, with so much open, comes to what the whole comes to
abbrev pub invariant-loop-rest : goal.invariant-loop-rest
invariant-loop-rest l = (l.depth + length l.rest ≤ length l.bytes) × (level l.depth l.rest ≡ level 0 l.bytes)

abbrev pub decreases-loop-rest : goal.decreases-loop-rest
decreases-loop-rest l = length l.rest
