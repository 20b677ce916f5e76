use Rattle.store.specs.Paragraphs.{paragraphs_left}
use Rattle.layout.specs.Sheets.{looks_of}
use Rattle.layout.specs.Paragraphs.{part_rows}
use Rattle.layout.specs.Keeping.{Keeps}
use Rattle.layout.specs.Finishes.{Takes}
use Rattle.layout.specs.Books.{lines_in}
use Rattle.layout.specs.Found.{window_of, inside}
use Rattle.layout.proofs.book.Book.write.Given as goal

abbrev pub invariant-loop-bytes : goal.invariant-loop-bytes
invariant-loop-bytes l = record {
  can_next : (goal.iterator-loop-bytes).can_next l.bytes-iterator;
  finite : (goal.iterator-loop-bytes).is_finite l.bytes-iterator;
  same : Keeps l.initial.self l.self;
  taken : Takes l.initial.rows l.rows (part_rows l.part (looks_of l.initial.self.sheet) (inside (window_of l.fn.found) (lines_in l.initial.self.sheet (paragraphs_left l.fn.found.from.paragraphs)))) (part_rows l.part (looks_of l.initial.self.sheet) (inside l.window (lines_in l.initial.self.sheet (paragraphs_left l.bytes-iterator))));
}
