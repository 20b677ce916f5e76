use Rattle.std.proofs.Common.{◌≡◌, ℕ, ◌+◌, ◌-◌, ◌*◌, ◌/◌, ◌<◌, ◌≤◌, length, ap, arith}
use Rattle.linebreak.specs.Ways.{SolvedFrom}
use Rattle.linebreak.proofs.Writes.{measured_still, leaves_more, small_more, solved_more, solved_all}
use Rattle.linebreak.proofs.break_lines.Goals as goal

pub loop-i-preserved : goal.loop-i-preserved
loop-i-preserved c =
    let i : ℕ = c.loop-i.i - 1 in
    let n : ℕ = length c.args.slots.now / 8 in
    let xs = c.loop-i.slots in
    let count : length xs / 8 ≡ n = ap (λ m. m / 8) c.loop-i.invariant.0.as_long in
    let l : i < n = omega arith in
    let room : 8 * n ≤ length xs = omega arith in
    let up : i + 1 ≡ c.loop-i.i = omega arith in
    let way = c.best_from-cost.result in (
      leaves_more xs i way.cost way.words n l room c.args.slots.now c.loop-i.invariant.0,
      small_more xs i way.cost way.words n l room (rw up c.loop-i.invariant.1) (rw count at c.best_from-cost.ensures.small.0),
      λ wide ws m.
          let later : SolvedFrom wide c.args.width ws xs n (i + 1) = rw up (c.loop-i.invariant.2 wide ws m) in
          solved_more xs i way.cost way.words n l room wide c.args.width ws later ((rw count at c.best_from-cost.ensures.best) wide ws (measured_still wide ws c.args.slots.now xs n c.args.space c.loop-i.invariant.0 m) later),
    )

pub returns-clause-after : goal.returns-clause-after
returns-clause-after c =
    let none : c.loop-i.i ≡ 0 = omega arith in
    λ wide ws m. solved_all wide c.args.width ws c.loop-i.slots (length c.args.slots.now / 8) (rw none at (c.loop-i.invariant.2 wide ws m))
