use Rattle.std.proofs.Common.{◌≡◌, ◌-◌, is_some}
use Rattle.text.specs.Rows.{rows_in}
use Rattle.text.proofs.rows.Rows.of.Given as goal

-- what is left is rows just where all is
abbrev pub invariant-loop : goal.invariant-loop
invariant-loop l = is_some (rows_in (l.count - l.counter) l.rows.0.now) ≡ is_some (rows_in l.count l.bytes)
