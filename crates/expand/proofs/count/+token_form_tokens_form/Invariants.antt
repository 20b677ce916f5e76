use Rattle.std.proofs.Common.{◌*◌, ◌+◌, length}
use Rattle.wire.specs.Fit.{bytes_of}
use Rattle.expand.specs.Forms.{row_form}
use Rattle.expand.proofs.Counting.{Counted}
use Rattle.expand.proofs.count.+token_form_tokens_form.Given as goal

-- what a note or a command holds is shorter
abbrev pub decreases-token_form : goal.decreases-token_form
decreases-token_form l = 2 * bytes_of l.token

abbrev pub decreases-tokens_form : goal.decreases-tokens_form
decreases-tokens_form l = 2 * length l.tokens.now + 1

abbrev pub invariant-tokens_form-loop-token : goal.invariant-tokens_form-loop-token
invariant-tokens_form-loop-token l = Counted l.tokens (row_form l.forms) l.most l.form l.token-iterator.0.now
