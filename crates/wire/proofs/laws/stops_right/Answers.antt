use Rattle.wire.proofs.Readings.{stops_right}
use Rattle.wire.proofs.laws.stops_right.Goals as goal

pub returns : goal.returns
returns c = stops_right
