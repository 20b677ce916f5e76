use Rattle.std.proofs.Common.{◌≡◌, inl, inr}
use Rattle.std.proofs.lemmas.Bool.{not-true, not-false}
use Rattle.store.specs.Paragraphs.{paragraphs_left}
use Rattle.layout.specs.Walks.{searched}
use Rattle.layout.specs.Fills.{heights}
use Rattle.layout.specs.Sheets.{looks_of, paragraph_lines}
use Rattle.layout.proofs.Keeping.{keeps_more}
use Rattle.layout.proofs.BookWalks.{placed, one_more, found_done, found_at_end}
use Rattle.layout.proofs.book.Book.seek.Goals as goal
use Rattle.layout.proofs.book.Book.seek.Goals.{then-walk-goal, else-walk-goal}

pub returns-in_default-clause-found : goal.returns-in_default-clause-found
returns-in_default-clause-found c =
    let s = c.args.self.now.sheet in
    let all = paragraphs_left c.args.self.now.paragraphs in
    let place =
    placed s all c.args.goal c.loop-search.behind c.loop-search.search c.loop-search.from c.if-walk-goal.from c.loop-search.invariant.so_far (not-true c.loop-search.search.done c.loop-search-test.true)
    (elim c.if-walk-goal.branch [ then-walk-goal w ↦ inl (w.if-walk-goal.true, w.from-is) | else-walk-goal w ↦ inr w.from-is ]) in
    found_at_end s all c.args.goal (paragraphs_left c.loop-search.behind) c.loop-search.search c.if-walk-goal.from place c.args.self.now.few c.in_default.ensures.steps.0

pub loop-search-preserved : goal.loop-search-preserved
loop-search-preserved c =
    let s = c.args.self.now.sheet in
    let all = paragraphs_left c.args.self.now.paragraphs in
    let place =
    placed s all c.args.goal c.loop-search.behind c.loop-search.search c.loop-search.from c.if-walk-goal.from c.loop-search.invariant.so_far (not-true c.loop-search.search.done c.loop-search-test.true)
    (elim c.if-walk-goal.branch [ then-walk-goal w ↦ inl (w.if-walk-goal.true, w.from-is) | else-walk-goal w ↦ inr w.from-is ]) in
    let value : c.search_paragraph-search.result ≡ searched s.looks.rows (heights (looks_of s) (paragraph_lines s c.in-Some.bytes.now)) c.loop-search.search =
    rw c.loop-search.invariant.same.sheet at c.search_paragraph-search.ensures.value
    in
    record {
      same = keeps_more c.args.self.now c.loop-search.self _ c.loop-search.invariant.same c.search_paragraph-search.ensures.same;
      so_far =
          one_more s all c.args.goal c.in-Some.bytes.now (paragraphs_left c.next.new.self) (paragraphs_left c.loop-search.behind) c.loop-search.search c.search_paragraph-search.result c.if-walk-goal.from
          c.in-Some.ensures.steps place (not-true c.loop-search.search.done c.loop-search-test.true) value c.search_paragraph-search.ensures.grown c.search_paragraph-search.ensures.rows;
    }

pub returns-clause-found : goal.returns-clause-found
returns-clause-found c =
    found_done c.args.self.now.sheet (paragraphs_left c.args.self.now.paragraphs) c.args.goal (paragraphs_left c.loop-search.behind) c.loop-search.search c.loop-search.from c.loop-search.invariant.so_far
    c.args.self.now.few (not-false c.loop-search.search.done c.loop-search-test.false)
