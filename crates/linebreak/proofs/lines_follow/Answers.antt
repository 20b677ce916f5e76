use Rattle.linebreak.proofs.Paths.{lines_follow}
use Rattle.linebreak.proofs.lines_follow.Goals as goal

pub returns : goal.returns
returns c = lines_follow
