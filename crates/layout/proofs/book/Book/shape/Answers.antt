use Rattle.std.proofs.Common.{arith}
use Rattle.store.specs.Paragraphs.{paragraphs_left}
use Rattle.layout.proofs.Asking.{no_shape, shape_seen}
use Rattle.layout.proofs.book.Book.shape.Goals as goal

pub returns-then-found-page-clause-value : goal.returns-then-found-page-clause-value
returns-then-found-page-clause-value c = no_shape c.args.self.now.sheet (paragraphs_left c.args.self.now.paragraphs) _ c.seek-found.result c.seek-found.ensures.found c.if-found-page.true

pub returns-clause-value : goal.returns-clause-value
returns-clause-value c =
    let found = c.seek-found.ensures.found in
    let few = found.small.seen in
    shape_seen c.args.self.now.sheet (paragraphs_left c.args.self.now.paragraphs) _ c.seek-found.result found (omega arith) (omega arith)
