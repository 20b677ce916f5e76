use Rattle.std.proofs.Common.{◌≡◌, ◌+◌, ◌*◌, suc, ◌∙◌, subst, arith}
use Rattle.expand.specs.Forms.{RowsAt}
use Rattle.expand.specs.Commands.{all_definitions}
use Rattle.expand.proofs.commands.all_levels.Goals as goal

pub loop-init : goal.loop-init
loop-init c = λ k l. c.fill.ensures.rows k l ∙ c.question_mark.ensures (all_definitions c.args.definitions c.args.new) k

pub loop-preserved : goal.loop-preserved
loop-preserved c =
    let n = 2 * c.loop.counter in
    let two_more : suc (suc (2 * c.loop.counter)) ≡ 2 * (c.loop.counter + 1) = omega arith in
    subst (λ m. RowsAt c.args.most m (all_definitions c.args.definitions c.args.new) c.deeper-in-loop.new.next) two_more
    (c.deeper-in-loop.ensures.deeper (suc n) (c.deeper.ensures.deeper n c.loop.invariant))

pub returns-clause-rows : goal.returns-clause-rows
returns-clause-rows c =
    let there : 2 * c.loop.counter ≡ 16 = omega (arith, c.loop-test) in
    subst (λ m. RowsAt c.args.most m (all_definitions c.args.definitions c.args.new) c.loop.rows) there c.loop.invariant
