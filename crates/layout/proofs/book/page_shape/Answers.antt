use Rattle.std.proofs.Common.{rules, ℕ, List, ◌++◌, length, sym, ap, ◌∙◌, arith}
use Rattle.meaning.proofs.Picks.{pick_true}
use Rattle.store.specs.Kept.{is_open}
use Rattle.layout.specs.Asked.{shape_of}
use Rattle.layout.proofs.OpenBooks.{cut_room, stands_apart, pages_there, cleaned}
use Rattle.layout.proofs.book.page_shape.Goals as goal

pub split_at_mut-front-requires : goal.split_at_mut-front-requires
split_at_mut-front-requires c =
    let book = rw c.in_ok-kept.was at c.looked_at.ensures in
    omega (arith, cut_room book c.front.ensures)

pub of-book-requires : goal.of-book-requires
of-book-requires c =
    let book = rw c.in_ok-kept.was at c.looked_at.ensures in
    let halves = c.split_at_mut-front.ensures in
    stands_apart book c.front.ensures halves.front halves.back

pub returns-clause-value : goal.returns-clause-value
returns-clause-value c =
    let book = rw c.in_ok-kept.was at c.looked_at.ensures in
    let halves = c.split_at_mut-front.ensures in
    let pages = pages_there book c.front.ensures halves.front halves.back c.of-book.ensures.sheet c.of-book.ensures.paragraphs in
    c.shape-shape.ensures.value
    ∙ (ap (λ ps. shape_of ps c.args.page) (sym pages) ∙ sym (pick_true (is_open (length c.args.tokens.now) c.args.rest.now) _ _ book.opened))

pub returns-clause-after : goal.returns-clause-after
returns-clause-after c =
    let book = rw c.in_ok-kept.was at c.looked_at.ensures in
    let halves = c.split_at_mut-front.ensures in
    let same = c.shape-shape.ensures.same in
    let lent = c.clean.ensures.same.lent ∙ (same.lent ∙ c.of-book.ensures.lent) in
    ap (λ (xs : List ℕ). c.split_at_mut-front.result.0.now ++ xs) (search (rules, lent))
    ∙ (cleaned book c.front.ensures halves.front halves.back _ c.of-book.ensures.sheet same.sheet c.of-book.ensures.work same.behind c.clean.ensures.zeros
    ∙ sym (pick_true (is_open (length c.args.tokens.now) c.args.rest.now) _ _ book.opened))
