use Rattle.std.proofs.Common.{rules, arith}
use Rattle.std.proofs.lemmas.Grind.{common_steps}
use Rattle.wire.proofs.Sizes.{letter_measured, other_measured, note_measured, counted_more, counted_all}
use Rattle.wire.proofs.fit.+token_measure_tokens_measure.Goals as goal

pub token_measure-returns-in-Letter : goal.token_measure-returns-in-Letter
token_measure-returns-in-Letter t c = letter_measured c.args.token c.in-Letter.c c.args.depth c.then_some.result c.in-Letter.is (search rules)

pub token_measure-returns-in_ok-inside-in-Note : goal.token_measure-returns-in_ok-inside-in-Note
token_measure-returns-in_ok-inside-in-Note t c =
    note_measured c.args.token c.in-Note.inside c.args.depth c.in_ok-checked_sub-in-Note.field-0 c.in_ok-inside-in-Note.inside c.noted.result c.in-Note.is
    (grind (arith, common_steps)) c.noted.ensures c.in_ok-inside-in-Note.ensures

pub token_measure-returns-in_default : goal.token_measure-returns-in_default
token_measure-returns-in_default t c = other_measured c.args.token c.args.depth (search rules) (search rules) c.in_default.not-Note

pub tokens_measure-loop-token-preserved : goal.tokens_measure-loop-token-preserved
tokens_measure-loop-token-preserved t c =
    rw c.and-measure.ensures
    (counted_more c.args.tokens.now c.loop-token.token-iterator.0.now c.args.depth c.loop-token.measure c.loop-token.invariant c.in-Some.token c.next.new.self.0.now
    c.in_ok-token_measure.field-0 c.in-Some.ensures.steps c.in_ok-token_measure.ensures)

pub tokens_measure-returns : goal.tokens_measure-returns
tokens_measure-returns t c =
    counted_all c.args.tokens.now c.loop-token.token-iterator.0.now c.args.depth c.loop-token.measure c.loop-token.invariant c.in-None.ensures.steps.0
