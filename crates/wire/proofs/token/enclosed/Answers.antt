use Rattle.std.proofs.Common.{◌<◌, length, arith, rules}
use Rattle.wire.proofs.Firsts.{closes_within}
use Rattle.wire.proofs.token.enclosed.Goals as goal

pub slice_bounds-result-count : goal.slice_bounds-result-count
slice_bounds-result-count c = omega (arith, (closes_within c.args.bytes.now c.in-Close.n c.in-Close.ensures).0)

pub slice_bounds-result-start : goal.slice_bounds-result-start
slice_bounds-result-start c =
    let within : c.in-Close.n < length c.args.bytes.now = (closes_within c.args.bytes.now c.in-Close.n c.in-Close.ensures).0 in
    search rules
