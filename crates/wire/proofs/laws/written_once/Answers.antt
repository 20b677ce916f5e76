use Rattle.wire.proofs.Answered.{written_once}
use Rattle.wire.proofs.laws.written_once.Goals as goal

pub returns : goal.returns
returns c = written_once
