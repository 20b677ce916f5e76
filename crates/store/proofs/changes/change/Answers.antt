use Rattle.std.proofs.Common.{ap, ◌∙◌, subst}
use Rattle.store.specs.Changes.{Changes}
use Rattle.store.specs.Edits.{edit_in}
use Rattle.store.proofs.Makes.{found, replaces, edit_made}
use Rattle.store.proofs.changes.change.Goals as goal

pub make-requires : goal.make-requires
make-requires c =
    replaces c.args.tokens.now c.args.rest.now c.in_ok-kept.kept c.in_ok-kept.entries.now c.of-before.result c.of-gone.result c.replacement-replacement.result
    (found c.open_book.ensures c.ok_or.ensures.ok_part c.in_ok-kept.was)
    c.if-at-gone.false
    c.of-before.ensures
    c.of-gone.ensures

pub returns : goal.returns
returns c =
    let book = found c.open_book.ensures c.ok_or.ensures.ok_part c.in_ok-kept.was in
    let same = ap edit_in c.replacement-replacement.ensures ∙ edit_made c.args.edit c.args.rest.now _ (ap (λ k. k.paragraphs.entries) book.same) in
    subst (λ e. Changes e c.args.tokens.now c.args.rest.now c.make.new.tokens c.make.new.rest c.make.result) same c.make.ensures
