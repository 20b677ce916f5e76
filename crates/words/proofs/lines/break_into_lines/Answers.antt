use Rattle.words.proofs.Broken.{not_broken, broken}
use Rattle.words.proofs.lines.break_into_lines.Goals as goal

pub returns-in_err-numbers : goal.returns-in_err-numbers
returns-in_err-numbers c = rw c.from_residual.ensures (not_broken _ _ c.in_err-numbers.ensures)

pub returns : goal.returns
returns c = broken c.in_ok-numbers.ensures c.break_row-words.ensures
