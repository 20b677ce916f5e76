-- What is asked of the book in memory, and answered, whatever stands there.
--   counting_pages   how many pages there are
--   shaping          how many lines and rows a page has, or that it is not there
--   showing          how many bytes the rows of a page are, or why they are not there: the page is not there, or it has not so many rows
--   shown_bytes      these bytes
--   page_of, shape_of, shown_of, bytes_of_rows   the same of any pages
use Rattle.std.specs.Prelude.{ℕ, ◌+◌, List, length, take, drop, Ok, Err, Result, nat_le, nat_lt, slice_index_or}
use Rattle.meaning.specs.Text.{pick}
use Rattle.meaning.specs.Pages.{Page}
use Rattle.meaning.specs.Calls.{no_page, page_rows, rows}
use Rattle.wire.specs.Bytes.{answer_bytes}
use Rattle.wire.specs.declared.refusal.Refusal.{Refusal}
use Rattle.wire.specs.declared.refusal.Refusal.TheVariants.{BadOpening, NoPage, NoRows}
use Rattle.store.specs.Kept.{is_open}
use Rattle.layout.specs.Books.{pages_in}
use Rattle.layout.specs.declared.book.PageShape.{PageShape}

abbrev pub counting_pages : List ℕ → List ℕ → Result ℕ Refusal
counting_pages ts rs = pick (is_open (length ts) rs) (Ok (length (pages_in ts rs))) (Err BadOpening)

abbrev pub page_of : List Page → ℕ → Page
page_of ps k = slice_index_or ps k no_page

abbrev pub shape_of : List Page → ℕ → Result PageShape Refusal
shape_of ps k = pick (nat_lt k (length ps)) (Ok (record { lines = length (page_of ps k).lines; rows = length (page_rows (page_of ps k)) })) (Err (NoPage k))

abbrev pub shaping : List ℕ → List ℕ → ℕ → Result PageShape Refusal
shaping ts rs k = pick (is_open (length ts) rs) (shape_of (pages_in ts rs) k) (Err BadOpening)

abbrev pub bytes_of_rows : List Page → ℕ → ℕ → ℕ → List ℕ
bytes_of_rows ps k r n = answer_bytes (rows (take n (drop r (page_rows (page_of ps k)))))

abbrev pub shown_of : List Page → ℕ → ℕ → ℕ → Result ℕ Refusal
shown_of ps k r n =
    pick (nat_lt k (length ps)) (pick (nat_le (r + n) (length (page_rows (page_of ps k)))) (Ok (length (bytes_of_rows ps k r n))) (Err (NoRows r))) (Err (NoPage k))

abbrev pub shown_bytes : List ℕ → List ℕ → ℕ → ℕ → ℕ → List ℕ
shown_bytes ts rs = bytes_of_rows (pages_in ts rs)

abbrev pub showing : List ℕ → List ℕ → ℕ → ℕ → ℕ → Result ℕ Refusal
showing ts rs k r n = pick (is_open (length ts) rs) (shown_of (pages_in ts rs) k r n) (Err BadOpening)
