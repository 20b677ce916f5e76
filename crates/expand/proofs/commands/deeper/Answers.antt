use Rattle.std.proofs.Common.{◌++◌, map, ap, ◌∙◌, subst}
use Rattle.meaning.specs.Sizes.{stopped_at}
use Rattle.expand.specs.Commands.{definition_of, new_definition, all_definitions}
use Rattle.store.specs.Defined.{plain}
use Rattle.expand.proofs.Filling.{Filled, none_filled, one_filled, all_filled}
use Rattle.expand.proofs.commands.deeper.Goals as goal

pub loop-definition-init : goal.loop-definition-init
loop-definition-init c =
    rw c.into_iter-definition-iterator.ensures.into_iter_gives (λ n rows. none_filled _ _ _ _ _ c.command_form.ensures.counted c.fill.ensures.rows)

pub loop-definition-preserved : goal.loop-definition-preserved
loop-definition-preserved c = λ n rows.
    let all = all_definitions c.args.definitions c.args.new in
    let forms = stopped_at c.args.most n all in
    let filled =
    subst (λ ds. Filled c.args.most forms all (map definition_of ds ++ new_definition c.args.new) c.loop-definition.next) c.in-Some.ensures.steps
    (c.loop-definition.invariant n rows)
    in
    one_filled c.args.most forms all c.loop-definition.next (definition_of (plain c.in-Some.definition)) _ c.define.new.next filled (c.define.ensures.here n all rows)
    c.define.ensures.others

pub returns-in-Some-new-clause-deeper : goal.returns-in-Some-new-clause-deeper
returns-in-Some-new-clause-deeper c = λ n rows.
    let all = all_definitions c.args.definitions c.args.new in
    let forms = stopped_at c.args.most n all in
    let left = ap (λ ds. map definition_of ds ++ new_definition c.args.new) c.in-None.ensures.steps.0 ∙ ap new_definition c.in-Some-new.is in
    let filled = subst (λ ds. Filled c.args.most forms all ds c.loop-definition.next) left (c.loop-definition.invariant n rows) in
    all_filled c.args.most n all c.define-in-Some-new.new.next
    (one_filled c.args.most forms all c.loop-definition.next (definition_of (plain c.in-Some-new.definition)) _ c.define-in-Some-new.new.next filled
    (c.define-in-Some-new.ensures.here n all rows) c.define-in-Some-new.ensures.others)

pub returns-in_default-clause-deeper : goal.returns-in_default-clause-deeper
returns-in_default-clause-deeper c = λ n rows.
    let all = all_definitions c.args.definitions c.args.new in
    let left = ap (λ ds. map definition_of ds ++ new_definition c.args.new) c.in-None.ensures.steps.0 ∙ ap new_definition c.in_default.is in
    all_filled c.args.most n all c.loop-definition.next
    (subst (λ ds. Filled c.args.most (stopped_at c.args.most n all) all ds c.loop-definition.next) left (c.loop-definition.invariant n rows))
