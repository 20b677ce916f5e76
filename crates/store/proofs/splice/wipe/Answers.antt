use Rattle.std.proofs.Common.{length, replicate, sym, ◌∙◌, arith}
use Rattle.std.proofs.lemmas.List.{ext_get_or, length-replicate, get_or-replicate}
use Rattle.store.proofs.splice.wipe.Goals as goal

pub returns : goal.returns
returns g c =
    ext_get_or c.args.blank c.loop-x.xs (replicate (length c.args.xs.now) c.args.blank)
    (c.loop-x.auto.xs ∙ sym (length-replicate (length c.args.xs.now) c.args.blank))
    (λ i h. c.loop-x.invariant i (omega arith) ∙ sym (get_or-replicate (length c.args.xs.now) i c.args.blank c.args.blank (omega arith)))
