use Rattle.machine.proofs.NoBooks.{no_books}
use Rattle.machine.proofs.no_book.Goals as goal

pub returns : goal.returns
returns c = no_books
