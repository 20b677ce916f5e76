use Rattle.meaning.proofs.Turned.{turned_away}
use Rattle.meaning.proofs.turned_away.Goals as goal

pub returns : goal.returns
returns c = turned_away
