-- How many lines a paragraph has, and how much of the slots it takes.
--   lines_in  how many lines the best way to break atoms has; none where there are no atoms
--   used      how many numbers of the slots are written: a slot for each word
use Rattle.std.specs.Prelude.{ℕ, ◌*◌, List, length, Some, None, Option}
use Rattle.meaning.specs.Text.{Atom}
use Rattle.meaning.specs.Lines.{nothing_yet, split, best}

abbrev pub lines_in : (ℕ → ℕ) → ℕ → Option (List Atom) → Option ℕ
lines_in wide width None = None
lines_in wide width (Some xs) = Some (length (best wide width (split xs nothing_yet)).ks)

abbrev pub used : Option (List Atom) → ℕ
used None = 0
used (Some xs) = 8 * length (split xs nothing_yet)
