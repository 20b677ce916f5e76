use Rattle.store.proofs.Headers.{widths_by_part}
use Rattle.store.proofs.header.widths.Goals as goal

pub returns : goal.returns
returns c =
    let header = rw c.unwrap-header.ensures at c.first_chunk.ensures.cases in
    widths_by_part c.args.rest.now header.same c.part.ensures c.unpack.ensures
