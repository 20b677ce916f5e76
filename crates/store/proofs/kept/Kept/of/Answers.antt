use Rattle.store.proofs.Headers.{kept_by_parts}
use Rattle.store.proofs.kept.Kept.of.Goals as goal

pub returns : goal.returns
returns c =
    kept_by_parts c.args.header.now c.part.ensures c.part-2.ensures c.part-3.ensures c.part-4.ensures c.part-5.ensures c.in_ok-of.ensures c.in_ok-of-2.ensures c.from.ensures c.from-2.ensures
