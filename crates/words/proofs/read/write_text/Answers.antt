use Rattle.std.proofs.Common.{sym, ◌∙◌, arith}
use Rattle.words.proofs.Reading.{no_text_yet, text_refused, text_passed, text_no_room, text_more, text_all}
use Rattle.words.proofs.read.write_text.Goals as goal

pub loop-token-init : goal.loop-token-init
loop-token-init c = rw c.into_iter-token-iterator.ensures.into_iter_gives (no_text_yet c.args.tokens.now c.args.row.now)

pub loop-token-preserved-then-is_note : goal.loop-token-preserved-then-is_note
loop-token-preserved-then-is_note c = text_passed c.loop-token.invariant c.in-Some.ensures.steps (sym c.if-is_note.ensures)

pub returns-in_err-letter-clause-text : goal.returns-in_err-letter-clause-text
returns-in_err-letter-clause-text c =
    rw c.from_residual.ensures (text_refused c.loop-token.invariant c.in-Some.ensures.steps (sym c.if-is_note.ensures) (sym c.in_err-letter.was ∙ c.text_letter.ensures.value)).0

pub returns-in_err-letter-clause-small : goal.returns-in_err-letter-clause-small
returns-in_err-letter-clause-small c =
    (text_refused c.loop-token.invariant c.in-Some.ensures.steps (sym c.if-is_note.ensures) (sym c.in_err-letter.was ∙ c.text_letter.ensures.value)).1

pub returns-then-n-row-clause-text : goal.returns-then-n-row-clause-text
returns-then-n-row-clause-text c =
    (text_no_room c.loop-token.invariant c.in-Some.ensures.steps (sym c.if-is_note.ensures) (sym c.in_ok-letter.was ∙ c.text_letter.ensures.value) (omega arith)).0

pub returns-then-n-row-clause-small : goal.returns-then-n-row-clause-small
returns-then-n-row-clause-small c =
    (text_no_room c.loop-token.invariant c.in-Some.ensures.steps (sym c.if-is_note.ensures) (sym c.in_ok-letter.was ∙ c.text_letter.ensures.value) (omega arith)).1

pub loop-token-preserved : goal.loop-token-preserved
loop-token-preserved c =
    rw c.from.ensures (text_more c.loop-token.invariant c.in-Some.ensures.steps (sym c.if-is_note.ensures) (sym c.in_ok-letter.was ∙ c.text_letter.ensures.value) c.in_ok-letter.ensures.small (omega arith))

pub returns-clause-text : goal.returns-clause-text
returns-clause-text c = (text_all c.loop-token.invariant c.in-None.ensures.steps.0).0

pub returns-clause-small : goal.returns-clause-small
returns-clause-small c = (text_all c.loop-token.invariant c.in-None.ensures.steps.0).1
