use Rattle.std.proofs.Common.{◌+◌, refl, ◌∙◌}
use Rattle.store.proofs.Headers.{counts_put}
use Rattle.store.proofs.kept.Counts.write.Goals as goal

pub returns : goal.returns
returns c =
    counts_put c.args.header.now c.args.at (c.args.at + 3) c.args.self.entries c.args.self.size c.args.self.bytes c.told-header c.requires refl (c.copy_from_slice.ensures.after ∙ c.from.ensures)
