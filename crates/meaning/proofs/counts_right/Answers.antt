use Rattle.meaning.proofs.Sizes.{counts_right}
use Rattle.meaning.proofs.counts_right.Goals as goal

pub returns : goal.returns
returns c = counts_right
