use Rattle.std.proofs.Common.{sym, rules}
use Rattle.exports.proofs.setter_open.Goals as goal

pub returns : goal.returns
returns c =
    let whole = c.in-Ok.ensures.1 in
    let long = rw (sym whole.same) at whole.long in
    rw (sym whole.same) (search rules)
