use Rattle.std.proofs.Common.{refl}
use Rattle.store.proofs.Tables.{entries_in_front}
use Rattle.store.proofs.kept.Kept.entries.Goals as goal

pub returns : goal.returns
returns c = entries_in_front 64 c.args.front.now c.as_chunks.result.0.now c.args.self.now.paragraphs.entries _ refl c.as_chunks.ensures.front c.requires
