-- Rows of a page, looked for by a walk over the book.
--   goal_of     how far the walk has to go
--   Stands      a place among lines: those behind it are the lines of the paragraphs from there on
--   FoundBy     what the walk found
--   window_of   the lines of the page among those from that place on
--   inside      the lines that a window lets through
--   passed      the window behind a line, and behind several
use Rattle.std.specs.Prelude.{◌≡◌, ℕ, ◌+◌, ◌-◌, ◌≤◌, Bool, ◌&&◌, List, take, drop, ◌==◌, nat_lt}
use Rattle.meaning.specs.Text.{pick}
use Rattle.meaning.specs.Lines.{Line}
use Rattle.store.specs.Paragraphs.{paragraphs_left}
use Rattle.layout.specs.Walks.{begun, searched, Small}
use Rattle.layout.specs.Fills.{heights}
use Rattle.layout.specs.Sheets.{looks_of}
use Rattle.layout.specs.Books.{lines_in}
use Rattle.layout.specs.declared.sheet.Sheet.{Sheet}
use Rattle.layout.specs.declared.search.Goal.{Goal}
use Rattle.layout.specs.declared.book.Wanted.{Wanted}
use Rattle.layout.specs.declared.book.Place.{Place}
use Rattle.layout.specs.declared.book.Found.{Found}
use Rattle.layout.specs.declared.rows.Window.{Window}

-- the notes stand behind the lines, so that the whole page is wanted where it has no more lines than rows asked for
abbrev pub goal_of : Wanted → Goal
goal_of q = record { page = q.page; lines = q.row + q.count }

pub record Stands (s : Sheet) (all : List Line) (p : Place) : Type 0 where
  pub lines : drop p.lines all ≡ lines_in s (paragraphs_left p.paragraphs)

pub record FoundBy (s : Sheet) (all : List Line) (goal : Goal) (f : Found) : Type 0 where
  pub walk : f.walk ≡ (searched s.looks.rows (heights (looks_of s) all) (begun goal)).walk
  pub from : Stands s all f.from
  -- no line of the page stands before that place
  pub near : f.walk.pages ≡ goal.page + 1 → f.from.lines ≤ f.walk.before
  pub small : Small f.walk

abbrev pub window_of : Found → Window
window_of f = record { skip = f.walk.before - f.from.lines; left = f.walk.lines }

abbrev pub inside : {X : Type 0} → Window → List X → List X
inside w ls = take w.left (drop w.skip ls)

abbrev pub is_inside : Window → Bool
is_inside w = w.skip == 0 && nat_lt 0 w.left

abbrev pub passed_one : Window → Window
passed_one w = pick (w.skip == 0) (record { skip = 0; left = w.left - 1 }) (record { skip = w.skip - 1; left = w.left })

abbrev pub passed : Window → ℕ → Window
passed w n = record { skip = w.skip - n; left = w.left - (n - w.skip) }
