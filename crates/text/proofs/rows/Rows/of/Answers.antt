use Rattle.std.proofs.Common.{◌≡◌, ◌-◌, is_some, sym, refl, ap, ◌∙◌, arith}
use Rattle.std.proofs.option.Match.{None-if_not_some}
use Rattle.text.specs.Rows.{rows_in, rows_of}
use Rattle.text.proofs.RowParts.{rows_broken, rows_on, rows_end}
use Rattle.text.proofs.rows.Rows.of.Goals as goal
use Rattle.text.proofs.rows.Rows.of.Goals.{After-is_empty}

pub returns-in_err-next : goal.returns-in_err-next
returns-in_err-next c =
    let broken = rows_broken c.in_ok-count.count.now c.loop.counter c.loop.rows.0.now c.loop-test.true (sym c.in_err-next.ensures.steps.0) in
    let none = None-if_not_some _ (sym c.loop.invariant ∙ broken) in
    rw (c.from_residual-in_err-next.ensures, c.in_ok-count.ensures.cases.0, none) refl

pub loop-preserved : goal.loop-preserved
loop-preserved c =
    rows_on c.in_ok-count.count.now c.loop.counter c.loop.rows.0.now c.loop-test.true _ _ (sym c.in_ok-next.ensures.steps) ∙ c.loop.invariant

-- where all rows were cut off
ended : (c : After-is_empty) → c.is_empty.result ≡ is_some (rows_in c.in_ok-count.count.now c.in_ok-count.bytes.now)
ended c =
    c.is_empty.ensures
    ∙ (rows_end (c.in_ok-count.count.now - c.loop.counter) c.loop.rows.0.now (omega (arith, c.loop-test.false)) ∙ c.loop.invariant)

pub returns-then-not-is_empty : goal.returns-then-not-is_empty
returns-then-not-is_empty c =
    let none = None-if_not_some _ (sym (ended (goal.at.returns-then-not-is_empty c).After-is_empty) ∙ c.if-not-is_empty.true) in
    rw (c.in_ok-count.ensures.cases.0, none) refl

pub invariant_of-result : goal.invariant_of-result
invariant_of-result c = record { whole = sym (ended (goal.at.invariant_of-result c).After-is_empty) ∙ c.if-not-is_empty.false }

pub returns : goal.returns
returns c = ap rows_of (sym c.in_ok-count.ensures.cases.0)
