use Rattle.std.proofs.Common.{rules, ℕ, List, ◌++◌, length, Ok, sym, ap, ◌∙◌, arith}
use Rattle.meaning.proofs.Picks.{pick_true}
use Rattle.store.specs.Kept.{is_open}
use Rattle.store.specs.Paragraphs.{paragraphs_left}
use Rattle.layout.proofs.OpenBooks.{cut_room, stands_apart, pages_there, cleaned}
use Rattle.layout.proofs.Asking.{all_counted}
use Rattle.layout.proofs.book.count_pages.Goals as goal

pub split_at_mut-front-requires : goal.split_at_mut-front-requires
split_at_mut-front-requires c =
    let book = rw c.in_ok-kept.was at c.looked_at.ensures in
    omega (arith, cut_room book c.front.ensures)

pub of-book-requires : goal.of-book-requires
of-book-requires c =
    let book = rw c.in_ok-kept.was at c.looked_at.ensures in
    let halves = c.split_at_mut-front.ensures in
    stands_apart book c.front.ensures halves.front halves.back

pub returns-clause-value : goal.returns-clause-value
returns-clause-value c =
    let book = rw c.in_ok-kept.was at c.looked_at.ensures in
    let halves = c.split_at_mut-front.ensures in
    let pages = pages_there book c.front.ensures halves.front halves.back c.of-book.ensures.sheet c.of-book.ensures.paragraphs in
    let found = c.seek-found.ensures.found in
    let few = found.small.pages in
    ap Ok (sym (all_counted c.of-book.result.sheet (paragraphs_left c.of-book.result.paragraphs) _ c.seek-found.result found (omega arith)))
    ∙ (ap (λ ps. Ok (length ps)) (sym pages) ∙ sym (pick_true (is_open (length c.args.tokens.now) c.args.rest.now) _ _ book.opened))

pub returns-clause-after : goal.returns-clause-after
returns-clause-after c =
    let book = rw c.in_ok-kept.was at c.looked_at.ensures in
    let halves = c.split_at_mut-front.ensures in
    let same = c.seek-found.ensures.same in
    let lent = c.clean.ensures.same.lent ∙ (same.lent ∙ c.of-book.ensures.lent) in
    ap (λ (xs : List ℕ). c.split_at_mut-front.result.0.now ++ xs) (search (rules, lent))
    ∙ (cleaned book c.front.ensures halves.front halves.back _ c.of-book.ensures.sheet same.sheet c.of-book.ensures.work same.behind c.clean.ensures.zeros)
