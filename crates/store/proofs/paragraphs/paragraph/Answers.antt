use Rattle.std.proofs.Common.{refl, ◌∙◌}
use Rattle.std.proofs.lemmas.Iterator.Consumers.{nth_from_yields_List, YieldsList-from_first}
use Rattle.store.specs.Paragraphs.{paragraphs_left}
use Rattle.store.proofs.paragraphs.paragraph.Goals as goal

pub returns : goal.returns
returns c =
    nth_from_yields_List c.nth.result c.nth.new.self c.args.k c.nth.ensures.ran (YieldsList-from_first (λ p. p.now) paragraphs_left _ refl) ∙ c.in_ok-of.ensures c.args.k
