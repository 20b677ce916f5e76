use Rattle.std.proofs.Common.{length}
use Rattle.store.specs.Paragraphs.{paragraphs_left}
use Rattle.layout.specs.Keeping.{Keeps}
use Rattle.layout.proofs.BookWalks.{SoFar}
use Rattle.layout.proofs.book.Book.seek.Given as goal

abbrev pub invariant-loop-search : goal.invariant-loop-search
invariant-loop-search l = record {
  same : Keeps l.initial.self l.self;
  so_far : SoFar l.initial.self.sheet (paragraphs_left l.initial.self.paragraphs) l.goal (paragraphs_left l.behind) l.search l.from;
}

abbrev pub decreases-loop-search : goal.decreases-loop-search
decreases-loop-search l = length (paragraphs_left l.behind)
