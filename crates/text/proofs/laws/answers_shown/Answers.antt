use Rattle.text.proofs.Answered.{answers_shown}
use Rattle.text.proofs.laws.answers_shown.Goals as goal

pub returns : goal.returns
returns c = answers_shown
