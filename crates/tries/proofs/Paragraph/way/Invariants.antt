use Rattle.std.proofs.Common.{◌*◌, ◌≤◌}
use Rattle.tries.proofs.Paragraph.way.Given as goal

-- so that no sum is too large
abbrev pub invariant-loop-w : goal.invariant-loop-w
invariant-loop-w l = (l.natural ≤ 256 * l.w-index) × (l.cost ≤ 10000004096 * l.w-index)
