use Rattle.meaning.proofs.BestOfAll.{best_of_all}
use Rattle.meaning.proofs.best_of_all.Goals as goal

pub returns : goal.returns
returns c = best_of_all
