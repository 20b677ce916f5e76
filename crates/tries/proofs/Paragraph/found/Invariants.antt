use Rattle.std.proofs.Common.{◌≡◌, ℕ, ◌+◌, ◌*◌, ◌<◌, ◌≤◌, length, get_or}
use Rattle.tries.proofs.Paragraph.found.Given as goal

-- the widths so far are bytes
abbrev pub invariant-loop-k : goal.invariant-loop-k
invariant-loop-k l = (length l.slots ≡ 64) × ((j : ℕ) → j < l.k → get_or l.slots (8 * j + 2) 0 ≤ 255)
