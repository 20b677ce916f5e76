use Rattle.text.proofs.Formed.{lines_formed}
use Rattle.text.proofs.laws.lines_formed.Goals as goal

pub returns : goal.returns
returns c = lines_formed
