use Rattle.notation.proofs.Closes.{notes_tokens}
use Rattle.notation.proofs.laws.notes_tokens.Goals as goal

pub returns : goal.returns
returns c = notes_tokens
