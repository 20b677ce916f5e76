use Rattle.std.proofs.Common.{◌≡◌, ℕ, ◌+◌, ◌/◌, ◌≤◌, eqb, length, ◌∙◌, ap₂, arith}
use Rattle.linebreak.specs.Slots.{width_at, line_costs, cost_from}
use Rattle.linebreak.proofs.Tries.{tried_one, tried_takes, tried_keeps, tried_stops, tried_all}
use Rattle.linebreak.proofs.Writes.{line_costs_le, cost_from_le}
use Rattle.linebreak.proofs.Way.best_from.Goals as goal
use Rattle.linebreak.proofs.Way.best_from.Goals.{then-with-cost, else-with-cost}

pub loop-j-init : goal.loop-j-init
loop-j-init c =
    let i : ℕ = c.args.i in
    let n : ℕ = length c.args.slots.now / 8 in
    let xs = c.args.slots.now in
    let narrow : width_at xs i ≤ 1048576 = c.requires.bounds.each i (omega arith) in (
      omega arith,
      omega (arith, c.line_cost.ensures, c.cost_from.ensures, line_costs_le c.args.width (width_at xs i) (eqb (i + 1) n) (omega arith) (omega arith), cost_from_le xs n (i + 1) (i + 1) c.requires.later.1 (omega arith)),
      omega arith,
      λ wide ws m s. tried_one wide c.args.width ws xs n c.args.space m i (omega arith) s _ (ap₂ (λ (a b : ℕ). a + b) c.line_cost.ensures c.cost_from.ensures),
    )

pub loop-j-preserved : goal.loop-j-preserved
loop-j-preserved c =
    let i : ℕ = c.args.i in
    let j : ℕ = c.loop-j.j in
    let n : ℕ = length c.args.slots.now / 8 in
    let xs = c.args.slots.now in
    let narrow : width_at xs j ≤ 1048576 = c.requires.bounds.each j (omega arith) in
    let with : ℕ = c.line_cost-in-loop-j.result + c.cost_from-in-loop-j.result in
    let with_is : with ≡ line_costs c.args.width (c.loop-j.natural + (c.args.space + width_at xs j)) (eqb (j + 1) n) + cost_from xs n (j + 1) = ap₂ (λ (a b : ℕ). a + b) c.line_cost-in-loop-j.ensures c.cost_from-in-loop-j.ensures in (
      omega arith,
      elim c.if-with-cost.branch [ then-with-cost w ↦ omega (arith, w.cost-is) | else-with-cost w ↦ omega (arith, w.cost-is) ],
      elim c.if-with-cost.branch [ then-with-cost w ↦ omega (arith, w.words-is) | else-with-cost w ↦ omega (arith, w.words-is) ],
      λ wide ws m s. elim c.if-with-cost.branch [
        | then-with-cost w ↦ tried_takes wide c.args.width ws xs n c.args.space m i (omega arith) s j c.loop-j.natural c.loop-j.cost c.loop-j.words (omega arith) (omega arith) (c.loop-j.invariant.3 wide ws m s) c.if-with-cost.cost c.if-with-cost.words (w.cost-is ∙ with_is) (omega (arith, w.words-is)) (omega (arith, w.if-with-cost.true, w.cost-is))
        | else-with-cost w ↦ simp (w.cost-is, w.words-is) (tried_keeps wide c.args.width ws xs n c.args.space m i (omega arith) s j c.loop-j.natural c.loop-j.cost c.loop-j.words (omega arith) (omega arith) (c.loop-j.invariant.3 wide ws m s) with with_is (omega (arith, w.if-with-cost.false)))
      ],
    )

pub returns-after-loop-j-clause-best : goal.returns-after-loop-j-clause-best
returns-after-loop-j-clause-best c = λ wide ws m s.
    let all : c.loop-j.j ≡ length c.args.slots.now / 8 = omega arith in
    let t = c.loop-j.invariant.3 wide ws m s in
    tried_all wide c.args.width ws c.args.slots.now (length c.args.slots.now / 8) c.args.space m c.args.i c.loop-j.natural c.loop-j.cost c.loop-j.words (rw all at t)

pub returns-then-cost-lt-STICKS_OUT-clause-best : goal.returns-then-cost-lt-STICKS_OUT-clause-best
returns-then-cost-lt-STICKS_OUT-clause-best c = λ wide ws m s.
    tried_stops wide c.args.width ws c.args.slots.now (length c.args.slots.now / 8) c.args.space m c.args.i (omega arith) s c.loop-j.j c.loop-j.natural c.loop-j.cost
    c.loop-j.words (omega arith) (omega arith) (c.loop-j.invariant.3 wide ws m s) (omega (arith, c.if-natural-width.true)) (omega (arith, c.if-cost-lt-STICKS_OUT.true))
