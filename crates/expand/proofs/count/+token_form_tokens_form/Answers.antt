use Rattle.std.proofs.Common.{ap, ◌∙◌}
use Rattle.meaning.specs.Sizes.{given_to, form_of, stopped}
use Rattle.wire.specs.Bytes.{tokens_of}
use Rattle.expand.specs.Forms.{meant, row_form}
use Rattle.expand.proofs.Counting.{command_counted, all_counted, by_rows}
use Rattle.expand.proofs.count.+token_form_tokens_form.Goals as goal

pub token_form-returns-in-Command : goal.token_form-returns-in-Command
token_form-returns-in-Command t c =
    let forms = row_form c.args.forms.now in
    let inner = form_of (tokens_of c.in-Command.inside.now) forms in
    rw c.in-Command.is (c.given_to.ensures ∙ ap (λ f. stopped c.args.most (given_to f (meant c.tokens_form-in-Command.result))) c.row.ensures
    ∙ command_counted c.args.most inner c.tokens_form-in-Command.result c.tokens_form-in-Command.ensures.counted (forms c.in-Command.name))

pub tokens_form-returns-clause-at_depth : goal.tokens_form-returns-clause-at_depth
tokens_form-returns-clause-at_depth t c =
    let bytes = c.args.tokens.now in
    let forms = c.args.forms.now in
    λ n ds rows. by_rows bytes c.args.most n ds forms (meant c.loop-token.form) c.type_inv.tokens rows
    (all_counted bytes (row_form forms) c.args.most c.loop-token.form c.loop-token.token-iterator.0.now c.loop-token.invariant c.in-None.ensures.steps.0)
