-- Pages filled by a walk over the lines, of which it wants to know no more than how many rows each takes.
--   stepped      where the walk is after one line more
--   walked       and after several
--   Search       a walk that seeks lines of a page
--   found_line   where it is after one line more: it stays on the page where the line goes onto the next one
--   searched     and after several
--   Small        numbers that can still grow
--   Grown        by how much they have grown
use Rattle.std.specs.Prelude.{ℕ, ◌+◌, ◌≤◌, Bool, ◌&&◌, ◌||◌, true, false, List, [], ◌∷◌, ◌==◌, nat_le, nat_lt}
use Rattle.meaning.specs.Text.{pick}
use Rattle.layout.specs.declared.walk.Walk.{Walk}
use Rattle.layout.specs.declared.search.Goal.{Goal}
use Rattle.layout.specs.declared.search.Search.{Search}

abbrev pub nothing_walked : Walk
nothing_walked = record { pages = 0; before = 0; lines = 0; rows = 0 }

-- the page has so many rows, and the line takes so many with its notes
abbrev pub stepped : ℕ → Walk → ℕ → Walk
stepped rows w height =
    pick (w.lines == 0 || nat_lt rows (w.rows + height))
    (record { pages = w.pages + 1; before = w.before + w.lines; lines = 1; rows = height })
    (record { pages = w.pages; before = w.before; lines = w.lines + 1; rows = w.rows + height })

unfoldable pub walked : ℕ → List ℕ → Walk → Walk
walked rows [] w = w
walked rows (h ∷ hs) w = walked rows hs (stepped rows w h)

abbrev pub goes_past : Goal → Walk → Bool
goes_past goal w = nat_lt (goal.page + 1) w.pages

abbrev pub has_lines : Goal → Walk → Bool
has_lines goal w = nat_lt goal.page w.pages && nat_le goal.lines w.lines

abbrev pub begun : Goal → Search
begun goal = record { goal = goal; walk = nothing_walked; done = false }

abbrev pub moved_on : Search → Walk → Search
moved_on s w =
    pick (goes_past s.goal w) (record { goal = s.goal; walk = s.walk; done = true }) (record { goal = s.goal; walk = w; done = has_lines s.goal w })

abbrev pub found_line : ℕ → Search → ℕ → Search
found_line rows s height = pick s.done s (moved_on s (stepped rows s.walk height))

unfoldable pub searched : ℕ → List ℕ → Search → Search
searched rows [] s = s
searched rows (h ∷ hs) s = searched rows hs (found_line rows s h)

pub record Small (w : Walk) : Type 0 where
  pub pages : w.pages ≤ 16777216
  pub seen : w.before + w.lines ≤ 16777216
  pub rows : w.rows ≤ 1099511627776

-- after n lines, or fewer
pub record Grown (n : ℕ) (w v : Walk) : Type 0 where
  pub pages : v.pages ≤ w.pages + n
  pub seen : v.before + v.lines ≤ w.before + w.lines + n
