use Rattle.std.proofs.Common.{◌≡◌, ◌+◌, ◌*◌, ◌-◌, refl, sym, ap, ◌∙◌, subst, take, drop, length, arith}
use Rattle.std.specs.Simd.{first_chunks}
use Rattle.store.proofs.Tables.{entries_in_front}
use Rattle.store.proofs.kept.Kept.defined.Goals as goal

pub returns : goal.returns
returns c =
    entries_in_front (64 + 4 * c.args.self.now.limits.paragraphs) c.args.front.now c.as_chunks.result.0.now c.args.self.now.definitions.entries _ refl (rw c.front.ensures at c.as_chunks.ensures.front) c.requires
