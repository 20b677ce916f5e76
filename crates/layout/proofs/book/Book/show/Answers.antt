use Rattle.std.proofs.Common.{rules, ℕ, List, ◌++◌, drop, ap, ◌∙◌, refl, arith}
use Rattle.store.specs.Paragraphs.{paragraphs_left}
use Rattle.layout.proofs.Asking.{no_such_page, not_so_many, place_near, written_there, shown_there}
use Rattle.layout.proofs.book.Book.show.Goals as goal

pub returns-then-found-wanted-clause-value : goal.returns-then-found-wanted-clause-value
returns-then-found-wanted-clause-value c =
    no_such_page c.args.self.now.sheet (paragraphs_left c.args.self.now.paragraphs) c.args.wanted c.seek-found.result (rw c.goal.ensures at c.seek-found.ensures.found) c.if-found-wanted.true

pub returns-then-found-row-clause-value : goal.returns-then-found-row-clause-value
returns-then-found-row-clause-value c =
    not_so_many c.args.self.now.sheet (paragraphs_left c.args.self.now.paragraphs) c.args.wanted c.seek-found.result (rw c.goal.ensures at c.seek-found.ensures.found) (omega arith) c.if-found-row.true

pub write-requires : goal.write-requires
write-requires c = place_near c.args.self.now.sheet (paragraphs_left c.args.self.now.paragraphs) c.args.wanted c.seek-found.result (rw c.goal.ensures at c.seek-found.ensures.found) (omega arith)

pub write-requires-2 : goal.write-requires-2
write-requires-2 c = place_near c.args.self.now.sheet (paragraphs_left c.args.self.now.paragraphs) c.args.wanted c.seek-found.result (rw c.goal.ensures at c.seek-found.ensures.found) (omega arith)

pub returns-clause-value : goal.returns-clause-value
returns-clause-value c =
    let lines = rw c.seek-found.ensures.same.sheet at c.write.ensures.rows in
    let notes = rw (c.write.ensures.same.sheet ∙ c.seek-found.ensures.same.sheet) at c.write-2.ensures.rows in
    shown_there c.args.self.now.sheet (paragraphs_left c.args.self.now.paragraphs) c.args.wanted c.seek-found.result (rw c.goal.ensures at c.seek-found.ensures.found) (omega arith) (omega arith) _ c.write.new.rows c.write-2.new.rows
    refl refl refl lines notes

pub returns-clause-after : goal.returns-clause-after
returns-clause-after c =
    let lines = rw c.seek-found.ensures.same.sheet at c.write.ensures.rows in
    let notes = rw (c.write.ensures.same.sheet ∙ c.seek-found.ensures.same.sheet) at c.write-2.ensures.rows in
    let lent = notes.lent ∙ lines.lent in
    search (rules, lent)
    ∙ written_there c.args.self.now.sheet (paragraphs_left c.args.self.now.paragraphs) c.args.wanted c.seek-found.result (rw c.goal.ensures at c.seek-found.ensures.found) (omega arith) (omega arith) _ c.write.new.rows c.write-2.new.rows
    refl refl refl lines notes c.args.out.now (omega (arith, c.requires)) (ap (λ (xs : List ℕ). xs ++ drop 2 c.args.out.now) (c.copy_from_slice.ensures.after ∙ c.rows_start.ensures))
