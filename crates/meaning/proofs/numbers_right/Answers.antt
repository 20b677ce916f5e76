use Rattle.meaning.proofs.Numbers.{numbers_right}
use Rattle.meaning.proofs.numbers_right.Goals as goal

pub returns : goal.returns
returns c = numbers_right
