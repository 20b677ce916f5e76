use Rattle.meaning.proofs.Fills.{page_by_page}
use Rattle.meaning.proofs.page_by_page.Goals as goal

pub returns : goal.returns
returns c = page_by_page
