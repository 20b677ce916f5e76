use Rattle.machine.proofs.Promises.{setter_right}
use Rattle.machine.proofs.right.Goals as goal

pub returns : goal.returns
returns c = setter_right
