-- The best way from a word to the end, once those from later words are known.
--   SolvedFrom   the slots from word i on have the best lines
--   Shown        a cost and a number of words are those of the best way
--   dearest      no line costs more
--   SmallFrom    the costs from word i on are small
--   IsBest       a way is the best from word i on, for whatever words were measured
use Rattle.std.specs.Prelude.{◌≡◌, ℕ, ◌+◌, ◌-◌, ◌*◌, ◌<◌, ◌≤◌, List, drop, slice_index}
use Rattle.meaning.specs.Lines.{Word, Best, best}
use Rattle.linebreak.specs.Slots.{cost_at, words_at, Measured}
use Rattle.linebreak.specs.declared.Way.{Way}

pub record SolvedFrom (wide : ℕ → ℕ) (width : ℕ) (ws : List Word) (xs : List ℕ) (n i : ℕ) : Type 0 where
  pub costs : (k : ℕ) → i ≤ k → k < n → cost_at xs k ≡ (best wide width (drop k ws)).costs
  pub firsts : (k : ℕ) → i ≤ k → k < n → words_at xs k ≡ slice_index (best wide width (drop k ws)).ks 0

pub record Shown (b : Best) (cost words : ℕ) : Type 0 where
  pub costs : cost ≡ b.costs
  pub first : words ≡ slice_index b.ks 0

-- 4,096 words stick out, each with its space 1,048,831 wide
abbrev pub dearest : ℕ
dearest = 10000000000 + 4096 * 1048831

-- at most that for each word
abbrev pub SmallFrom : List ℕ → ℕ → ℕ → Type 0
SmallFrom xs n i = (k : ℕ) → i ≤ k → k < n → cost_at xs k ≤ dearest * (n - k)

abbrev pub IsBest : List ℕ → ℕ → ℕ → ℕ → ℕ → Way → Type 0
IsBest xs n space width i w =
    (wide : ℕ → ℕ) (ws : List Word) → Measured wide ws xs n space → SolvedFrom wide width ws xs n (i + 1) → Shown (best wide width (drop i ws)) w.cost w.words
