use Rattle.meaning.proofs.Letters.{letters_kept}
use Rattle.meaning.proofs.letters_kept.Goals as goal

pub returns : goal.returns
returns c = letters_kept
