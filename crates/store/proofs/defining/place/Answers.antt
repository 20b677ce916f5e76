use Rattle.std.proofs.Common.{◌∙◌, rules, tests}
use Rattle.std.proofs.lemmas.Iterator.{YieldsList-from_slice}
use Rattle.std.proofs.lemmas.Iterator.Search.{position_from_yields_List}
use Rattle.store.specs.Defines.{has_number}
use Rattle.store.proofs.Defines.{position_or_all}
use Rattle.store.proofs.defining.place.Goals as goal

pub returns : goal.returns
returns c =
    c.unwrap_or.ensures
    ∙ position_or_all (has_number c.args.number) c.args.entries.now
    (position_from_yields_List (has_number c.args.number) _ _ c.position-found.result c.position-found.ensures.ran (YieldsList-from_slice _ c.iter.ensures.rest) (λ x b q k. search (rules, tests)))
