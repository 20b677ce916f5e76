use Rattle.layout.proofs.SetLines.{slots_cut}
use Rattle.layout.proofs.line.Line.slots.Goals as goal

pub returns : goal.returns
returns c = slots_cut c.args.self.now.paragraph c.args.self.now.words c.args.self.now.within c.as_chunks.result.0.now c.as_chunks.ensures.front c.as_chunks.ensures.front_len
