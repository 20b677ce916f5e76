use Rattle.meaning.proofs.Worked.{worked}
use Rattle.meaning.proofs.examples.Goals as goal

pub returns : goal.returns
returns c = worked
