use Rattle.machine.proofs.Promises.{setter_refusal_keeps}
use Rattle.machine.proofs.refusal_keeps.Goals as goal

pub returns : goal.returns
returns c = setter_refusal_keeps
