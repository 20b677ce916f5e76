use Rattle.linebreak.proofs.Leading.{lines_lead}
use Rattle.linebreak.proofs.lines_lead.Goals as goal

pub returns : goal.returns
returns c = lines_lead
