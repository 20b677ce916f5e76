use Rattle.std.proofs.Common.{ℕ}
use Rattle.meaning.specs.Sizes.{stopped_at}
use Rattle.expand.specs.Forms.{RowsAt}
use Rattle.expand.specs.Commands.{all_definitions}
use Rattle.expand.proofs.Filling.{Filled}
use Rattle.expand.proofs.commands.deeper.Given as goal

abbrev pub invariant-loop-definition : goal.invariant-loop-definition
invariant-loop-definition l =
    let all = all_definitions l.definitions l.new in
    (n : ℕ) → RowsAt l.most n all l.now → Filled l.most (stopped_at l.most n all) all (all_definitions l.definition-iterator l.new) l.next
