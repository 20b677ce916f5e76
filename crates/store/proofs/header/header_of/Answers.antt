use Rattle.std.proofs.Common.{◌∙◌}
use Rattle.store.proofs.Fresh.{header_with}
use Rattle.store.proofs.header.header_of.Goals as goal

pub returns : goal.returns
returns c =
    header_with c.args.opening.now.limits c.args.opening.now.looks (c.copy_from_slice.ensures.after ∙ c.from.ensures) (c.copy_from_slice-2.ensures.after ∙ c.page.ensures)
    (c.copy_from_slice-3.ensures.after ∙ c.pack.ensures)
