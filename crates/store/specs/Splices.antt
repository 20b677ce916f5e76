-- A row in which some elements give way to others.
--   replaced, replaced_last   the row afterwards, with the others in the place of what goes, or behind what is left
--   FitsSplice   what a row of so many elements must have room for
use Rattle.std.specs.Prelude.{ℕ, ◌+◌, ◌-◌, ◌≤◌, max, List, ◌++◌, length, take, drop, replicate}

-- b elements from a on give way to new ones; the t elements behind them follow, and what is freed is blank
abbrev pub replaced : {A : Type 0} → A → List A → ℕ → ℕ → ℕ → List A → List A
replaced blank xs a b t new =
    take a xs ++ (new ++ (take t (drop (a + b) xs) ++ (replicate (b - length new) blank ++ drop (a + max b (length new) + t) xs)))

-- and behind those t elements instead
abbrev pub replaced_last : {A : Type 0} → A → List A → ℕ → ℕ → ℕ → List A → List A
replaced_last blank xs a b t new =
    take a xs ++ (take t (drop (a + b) xs) ++ (new ++ (replicate (b - length new) blank ++ drop (a + max b (length new) + t) xs)))

-- from `start` to `stop` elements go, so many come, and those that follow end at `end`
pub record FitsSplice (room start stop end come : ℕ) : Type 0 where
  pub forward : start ≤ stop
  pub behind : stop ≤ end
  pub there : end ≤ room
  pub fits : start + come + (end - stop) ≤ room
