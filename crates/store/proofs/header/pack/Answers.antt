use Rattle.std.proofs.Common.{◌+◌, ◌-◌, ◌*◌, get_or, rules, tests}
use Rattle.store.specs.Opened.{packed}
use Rattle.store.proofs.Packing.{made_by_calls, packed_eight}
use Rattle.store.proofs.header.pack.Goals as goal

pub returns : goal.returns
returns c =
    made_by_calls _ _ (λ k. packed (λ c'. get_or c.args.widths.now (c' - 32) 1) (32 + 8 * k)) 12
    (λ k y f h called. (search (rules, tests), packed_eight c.copy_from_slice.new.self c.args.widths.now c.as_chunks.result.0.now k y c.copy_from_slice.ensures.after c.copy_from_slice.ensures.len c.as_chunks.ensures.front h (search (rules, tests))))
    c.from_fn.result 0 c.from_fn.ensures.items
