use Rattle.meaning.proofs.Turned.{only_asked}
use Rattle.meaning.proofs.only_asked.Goals as goal

pub returns : goal.returns
returns c = only_asked
