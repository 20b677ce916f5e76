use Rattle.wire.proofs.Readings.{read_back}
use Rattle.wire.proofs.laws.read_back.Goals as goal

pub returns : goal.returns
returns c = read_back
