use Rattle.wire.proofs.Readings.{only_read}
use Rattle.wire.proofs.laws.only_read.Goals as goal

pub returns : goal.returns
returns c = only_read
