use Rattle.machine.proofs.Promises.{setter_enough_memory}
use Rattle.machine.proofs.enough_memory.Goals as goal

pub returns : goal.returns
returns c = setter_enough_memory
