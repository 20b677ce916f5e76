use Rattle.store.proofs.Fresh.{opened_sound}
use Rattle.store.proofs.Within.{in_range_good}
use Rattle.store.proofs.opening.opening_is_sound.Goals as goal

pub returns : goal.returns
returns c = record { good = in_range_good; sound = opened_sound }
