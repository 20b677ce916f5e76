use Rattle.std.proofs.Common.{◌≡◌, [], vec_items, sym, ◌∙◌, inr, append-nil, arith, refl}
use Rattle.std.proofs.lemmas.Result.{err_from_is_err_and}
use Rattle.notation.specs.Noted.{noted, noted_from}
use Rattle.notation.proofs.SoFar.{so_far_fault, so_far_deep, so_far_more, so_far_open, so_far_all}
use Rattle.notation.proofs.reading.read_tokens.Goals as goal
use Rattle.notation.proofs.reading.read_tokens.Goals.{Else-says_none}

pub returns-then-says_none : goal.returns-then-says_none
unfolding noted
returns-then-says_none c = ([], rw (sym c.says_none.ensures ∙ c.if-says_none.true) refl, sym (append-nil (vec_items c.args.out.now)))

-- what is not just \none
not_none : (c : Else-says_none) → noted c.args.text.now ≡ noted_from 0 c.args.text.now
unfolding noted
not_none c = rw (sym c.says_none.ensures ∙ c.if-says_none.false) refl

pub returns-in_err-piece : goal.returns-in_err-piece
returns-in_err-piece c =
    let p = err_from_is_err_and c.from_residual.result c.from_residual.ensures.1 in
    rw (p.1, p.2)
    (inr (not_none (goal.at.returns-in_err-piece c).Else-says_none
    ∙ so_far_fault _ _ _ _ _ c.loop-piece.invariant _ _ (rw c.in_err-piece.was at c.in-Some.ensures.steps)))

pub returns-in_err-depth : goal.returns-in_err-depth
returns-in_err-depth c =
    let p = err_from_is_err_and c.from_residual-in_err-depth.result c.from_residual-in_err-depth.ensures.1 in
    rw (p.1, p.2)
    (inr (not_none (goal.at.returns-in_err-depth c).Else-says_none
    ∙ so_far_deep _ _ _ _ _ c.loop-piece.invariant _ _ (rw c.in_ok-piece.was at c.in-Some.ensures.steps) _ c.in_err-depth.ensures))

pub loop-piece-preserved : goal.loop-piece-preserved
loop-piece-preserved c =
    so_far_more _ _ _ _ _ c.loop-piece.invariant _ _ (rw c.in_ok-piece.was at c.in-Some.ensures.steps) _ _ c.in_ok-depth.ensures c.in_ok-write.ensures

pub returns-then-depth-gt0 : goal.returns-then-depth-gt0
returns-then-depth-gt0 c =
    inr (not_none (goal.at.returns-then-depth-gt0 c).Else-says_none ∙ so_far_open _ _ _ _ _ c.loop-piece.invariant c.in-None.ensures.steps.0 c.if-depth-gt0.true)

pub returns : goal.returns
returns c =
    let all = so_far_all _ _ _ _ _ c.loop-piece.invariant c.in-None.ensures.steps.0 (omega (arith, c.if-depth-gt0.false)) in
    (all.0, not_none (goal.at.returns c).Else-says_none ∙ all.1, all.2)
