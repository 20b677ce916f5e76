use Rattle.std.proofs.Common.{ℕ, List}
use Rattle.meaning.specs.Lines.{Word}
use Rattle.linebreak.specs.Slots.{Measured, Leaves}
use Rattle.linebreak.specs.Ways.{SolvedFrom, SmallFrom}
use Rattle.linebreak.proofs.break_lines.Given as goal

-- the slots from i on have the best lines
abbrev pub invariant-loop-i : goal.invariant-loop-i
invariant-loop-i l =
    Leaves l.initial.slots l.slots l.n × SmallFrom l.slots l.n l.i
    × ((wide : ℕ → ℕ) (ws : List Word) → Measured wide ws l.initial.slots l.n l.space → SolvedFrom wide l.width ws l.slots l.n l.i)
