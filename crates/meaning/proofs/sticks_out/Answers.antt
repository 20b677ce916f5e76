use Rattle.meaning.proofs.SticksOut.{sticks_out}
use Rattle.meaning.proofs.sticks_out.Goals as goal

pub returns : goal.returns
returns c = sticks_out
