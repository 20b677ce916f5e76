use Rattle.words.proofs.Good.{numbers_tell}
use Rattle.words.proofs.laws.read_back.Goals as goal

pub returns : goal.returns
returns c = numbers_tell
