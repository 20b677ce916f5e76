use Rattle.wire.specs.Bytes.{tokens_of}
use Rattle.expand.proofs.Counting.{own_within}
use Rattle.expand.proofs.count.paragraph_fits.Goals as goal

pub returns-clause-within : goal.returns-clause-within
returns-clause-within c = λ ds rows. rw c.from.ensures (own_within c.args.most ds (tokens_of c.args.tokens.now) c.tokens_form.result (c.tokens_form.ensures.at_depth 16 ds rows))
