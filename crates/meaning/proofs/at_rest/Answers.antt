use Rattle.meaning.proofs.Numbers.{at_rest}
use Rattle.meaning.proofs.at_rest.Goals as goal

pub returns : goal.returns
returns c = at_rest
