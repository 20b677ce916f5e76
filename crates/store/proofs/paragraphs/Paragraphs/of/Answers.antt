use Rattle.std.proofs.Common.{ap, ◌∙◌}
use Rattle.std.specs.List.{slice_get}
use Rattle.store.specs.Paragraphs.{paragraphs_in}
use Rattle.store.proofs.Cutting.{paragraph_of_book}
use Rattle.store.proofs.paragraphs.Paragraphs.of.Goals as goal

pub returns : goal.returns
returns c = λ k.
    let book = c.in_ok-entries.ensures in
    ap (λ ps. slice_get ps k) (c.new.ensures ∙ ap (paragraphs_in c.args.tokens.now) book.entries) ∙ paragraph_of_book c.args.tokens.now c.args.rest.now book.opened k
