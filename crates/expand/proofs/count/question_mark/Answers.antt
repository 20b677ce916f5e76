use Rattle.meaning.specs.Sizes.{stopped_at}
use Rattle.expand.proofs.count.question_mark.Goals as goal

pub returns : goal.returns
unfolding stopped_at
returns c = λ ds k. c.stopped.ensures
