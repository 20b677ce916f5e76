use Rattle.std.proofs.Common.{◌*◌}
use Rattle.expand.specs.Forms.{RowsAt}
use Rattle.expand.specs.Commands.{all_definitions}
use Rattle.expand.proofs.commands.all_levels.Given as goal

abbrev pub invariant-loop : goal.invariant-loop
invariant-loop l = RowsAt l.most (2 * l.counter) (all_definitions l.definitions l.new) l.rows
