use Rattle.std.proofs.Common.{ℕ, ◌+◌, ◌-◌, ◌*◌, ◌≤◌, List}
use Rattle.meaning.specs.Lines.{Word}
use Rattle.linebreak.specs.Slots.{Measured}
use Rattle.linebreak.specs.Ways.{dearest, SolvedFrom}
use Rattle.linebreak.proofs.Tries.{Tried}
use Rattle.linebreak.proofs.Way.best_from.Given as goal

-- of the first lines that end before word j, the best is known
abbrev pub invariant-loop-j : goal.invariant-loop-j
invariant-loop-j l =
    (l.natural ≤ 1048831 * (l.j - l.i)) × (l.cost ≤ dearest * (l.n - l.i)) × (l.words ≤ l.j - l.i)
    × ((wide : ℕ → ℕ) (ws : List Word) → Measured wide ws l.slots l.n l.space → SolvedFrom wide l.width ws l.slots l.n (l.i + 1) → Tried wide l.width ws l.i (l.j - l.i) l.natural l.cost l.words)
