use Rattle.std.proofs.Common.{◌/◌, ◌%◌, get_or, rules, tests}
use Rattle.store.specs.Kept.{bytes_of}
use Rattle.store.proofs.Packing.{made_by_calls}
use Rattle.store.proofs.header.unpack.Goals as goal

pub returns : goal.returns
unfolding bytes_of
returns c =
    made_by_calls _ _ (λ k. get_or (bytes_of (get_or c.args.packed.now (k / 8) 0)) (k % 8) 0) 95
    (λ k y f h called. (search (rules, tests), search (rules, tests)))
    c.from_fn.result 0 c.from_fn.ensures.items
