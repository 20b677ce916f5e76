use Rattle.session.proofs.Whole.{session_right}
use Rattle.session.proofs.promise.session_is_right.Goals as goal

pub returns : goal.returns
returns c = session_right
