use Rattle.exports.proofs.Zero.{opened_by_zero}
use Rattle.exports.proofs.promise.exports_are_right.Goals as goal

pub returns : goal.returns
returns c l g ts rs ts' rs' cs o = c.session_is_right.ensures l g ts rs ts' rs' cs (opened_by_zero l g ts rs ts' rs' o)
