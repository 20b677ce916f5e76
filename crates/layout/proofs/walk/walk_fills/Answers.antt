use Rattle.layout.proofs.Walking.{walk_fills}
use Rattle.layout.proofs.walk.walk_fills.Goals as goal

pub returns : goal.returns
returns c = walk_fills
