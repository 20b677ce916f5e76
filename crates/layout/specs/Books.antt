-- The book in memory: its looks, its lines and its pages, whatever stands there.
--   sheet_at       its looks
--   bytes_at       the bytes of paragraph k
--   book_lines     the lines of so many paragraphs from one on
--   pages_in       the pages that they all fill
--   worked         memory when the working part was used: what a paragraph can need of it is 0
--   paragraphs_at  the paragraphs' bytes, one paragraph after another
--   lines_in, pages_by   the lines of paragraphs, and the pages that they fill
--   LookedAt       what is kept of an open book
--   InFront        what is kept of an open book stands in these numbers
use Rattle.std.specs.Prelude.{◌≡◌, ℕ, zero, suc, ◌+◌, ◌*◌, ◌≤◌, true, List, [], ◌++◌, length, take, drop, slice_index}
use Rattle.std.specs.List.{flat_map}
use Rattle.meaning.specs.Lines.{Line}
use Rattle.meaning.specs.Pages.{Page, fill}
use Rattle.words.specs.Atoms.{cleared}
use Rattle.store.specs.Kept.{kept_at, entries_at, table_sum, looks_at, is_open}
use Rattle.store.specs.Paragraphs.{paragraphs_in}
use Rattle.store.specs.declared.kept.Kept.{Kept}
use Rattle.layout.specs.Sheets.{looks_of, working, paragraph_lines}
use Rattle.layout.specs.declared.sheet.Sheet.{Sheet}

abbrev pub sheet_at : List ℕ → Sheet
sheet_at rs = record { looks = looks_at rs; bulk = slice_index rs 3 }

abbrev pub bytes_at : List ℕ → List ℕ → ℕ → List ℕ
bytes_at ts rs k = take (slice_index rs (64 + 4 * k)) (drop (table_sum 64 k rs) ts)

unfoldable pub book_lines : List ℕ → List ℕ → ℕ → ℕ → List Line
book_lines ts rs k zero = []
book_lines ts rs k (suc n) = paragraph_lines (sheet_at rs) (bytes_at ts rs k) ++ book_lines ts rs (k + 1) n

abbrev pub all_lines_in : List ℕ → List ℕ → List Line
all_lines_in ts rs = book_lines ts rs 0 (slice_index rs 4)

unfoldable pub pages_in : List ℕ → List ℕ → List Page
pages_in ts rs = fill (looks_of (sheet_at rs)) (all_lines_in ts rs) [] []

-- where the working part begins
abbrev pub start_at : List ℕ → ℕ
start_at rs = 64 + 4 * slice_index rs 0

abbrev pub worked : List ℕ → List ℕ
worked rs = take (start_at rs) rs ++ cleared (working (slice_index rs 3)) (drop (start_at rs) rs)

abbrev pub paragraphs_at : List ℕ → List ℕ → List (List ℕ)
paragraphs_at ts rs = paragraphs_in ts (entries_at rs)

abbrev pub lines_in : Sheet → List (List ℕ) → List Line
lines_in s ps = flat_map (paragraph_lines s) ps

unfoldable pub pages_by : Sheet → List (List ℕ) → List Page
pages_by s ps = fill (looks_of s) (lines_in s ps) [] []

pub record LookedAt (ts rs : List ℕ) (k : Kept) : Type 0 where
  pub opened : is_open (length ts) rs ≡ true
  pub kept : k ≡ kept_at rs

pub record InFront (ts front : List ℕ) (k : Kept) : Type 0 where
  pub kept : k ≡ kept_at front
  pub long : 64 + 4 * k.paragraphs.entries ≤ length front
  pub few : k.paragraphs.entries ≤ 4096
  pub bulk : k.limits.bulk ≤ 4096
  pub width : k.looks.width ≤ 1000
  pub all : length (paragraphs_at ts front) ≤ 4096
