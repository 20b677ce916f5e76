use Rattle.meaning.proofs.Forms.{one_reading}
use Rattle.meaning.proofs.one_reading.Goals as goal

pub returns : goal.returns
returns c = one_reading
