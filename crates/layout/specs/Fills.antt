-- What the walk tells of the pages that lines fill.
--   WalkFills   how many pages there are, on which page a line is, and which lines a page has
use Rattle.std.specs.Prelude.{◌≡◌, ℕ, suc, ◌+◌, ◌-◌, ◌<◌, List, [], map, length, get_or, take, drop, slice_index_or}
use Rattle.meaning.specs.Lines.{Line}
use Rattle.meaning.specs.Pages.{Looks, all_feet, fill}
use Rattle.meaning.specs.Calls.{no_page}
use Rattle.meaning.specs.Promise.{lines_of}
use Rattle.layout.specs.Walks.{nothing_walked, walked}
use Rattle.layout.specs.declared.walk.Walk.{Walk}

-- how many rows each line takes, with its notes
abbrev pub heights : Looks → List Line → List ℕ
heights g ls = map (λ (l : Line). suc (length (all_feet g l.feet))) ls

-- where the walk is when it has seen line i
abbrev pub walk_at : Looks → List Line → ℕ → Walk
walk_at g ls i = walked g.rows (take (i + 1) (heights g ls)) nothing_walked

pub record Fills (g : Looks) (ls : List Line) : Type 0 where
  pub how_many : length (fill g ls [] []) ≡ (walked g.rows (heights g ls) nothing_walked).pages
  pub seen : (i : ℕ) → i < length ls → (walk_at g ls i).before + (walk_at g ls i).lines ≡ i + 1
  -- line i is the last of those that the walk has seen of its page
  pub on_page : (i : ℕ) (d : Line) → i < length ls → slice_index_or (get_or (fill g ls [] []) ((walk_at g ls i).pages - 1) no_page).lines ((walk_at g ls i).lines - 1) d ≡ slice_index_or ls i d
  pub begun : (i : ℕ) → i < length ls → length (lines_of (take ((walk_at g ls i).pages - 1) (fill g ls [] []))) ≡ (walk_at g ls i).before
  -- a page has the lines behind those of the pages before it
  pub page_has : (k : ℕ) → k < length (fill g ls [] []) → (get_or (fill g ls [] []) k no_page).lines ≡ take (length (get_or (fill g ls [] []) k no_page).lines) (drop (length (lines_of (take k (fill g ls [] [])))) ls)

abbrev pub WalkFills : Type 0
WalkFills = (g : Looks) (ls : List Line) → Fills g ls
