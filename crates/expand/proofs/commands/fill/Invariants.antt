use Rattle.std.proofs.Common.{◌≡◌, ◌<◌, ℕ}
use Rattle.expand.specs.Forms.{meant, row_form}
use Rattle.expand.proofs.commands.fill.Given as goal

abbrev pub invariant-loop-command : goal.invariant-loop-command
invariant-loop-command l = (k : ℕ) → k < l.command → row_form l.forms k ≡ meant l.form
