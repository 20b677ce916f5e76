use Rattle.meaning.proofs.Paragraphs.{each_by_itself}
use Rattle.meaning.proofs.each_by_itself.Goals as goal

pub returns : goal.returns
returns c = each_by_itself
