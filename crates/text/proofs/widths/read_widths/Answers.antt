use Rattle.std.proofs.Common.{Ok, sym, ap, ◌∙◌, subst}
use Rattle.std.proofs.lemmas.Result.{err_from_is_err_and}
use Rattle.text.specs.Words.{words}
use Rattle.text.proofs.Tables.{SoFar, so_far_none, so_far_all, so_far_more, so_far_no_key, so_far_no_width}
use Rattle.text.proofs.widths.read_widths.Goals as goal

pub loop-name-init : goal.loop-name-init
loop-name-init c = subst (λ t. SoFar t (words c.args.text.now) (words c.args.text.now)) (sym c.new-table.ensures) (so_far_none (words c.args.text.now))

pub returns-in_err-key : goal.returns-in_err-key
returns-in_err-key c =
    let p = err_from_is_err_and c.from_residual.result c.from_residual.ensures.1 in
    rw (p.1, p.2) (so_far_no_key _ _ _ _ _ c.in_err-key.ensures.0 (rw c.in-Some.ensures.steps at c.loop-name.invariant))

pub returns-in_err-number : goal.returns-in_err-number
returns-in_err-number c =
    let p = err_from_is_err_and c.from_residual-in_err-number.result c.from_residual-in_err-number.ensures.1 in
    rw (p.1, p.2) (so_far_no_width _ _ _ _ c.in_ok-key.ensures.0 _ _ c.in_err-number.ensures (rw c.in-Some.ensures.steps at c.loop-name.invariant))

pub loop-name-preserved : goal.loop-name-preserved
loop-name-preserved c =
    rw c.put.ensures
    (so_far_more _ _ _ _ c.in_ok-key.ensures.0 c.in_ok-key.ensures.1 _ _ _ c.in_ok-number.ensures (rw c.in-Some.ensures.steps at c.loop-name.invariant))

pub returns : goal.returns
returns c = ap (λ ws. Ok ws) c.widths.ensures ∙ so_far_all c.loop-name.table _ _ c.in_default.ensures.steps.0 c.loop-name.invariant
