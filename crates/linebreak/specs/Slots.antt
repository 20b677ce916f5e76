-- The best lines of a paragraph, in a row of slots of eight numbers, a slot for each word.
--   width_at    how wide the word of slot k is
--   cost_at     the least cost from that word to the end
--   words_at    how many words the first line of that best way has
--   Bounds      what is asked: room for n slots, and numbers small enough
--   Measured    the slots have the widths of these words
--   Solved      the slots have the best lines of these words, from each word on
--   Breaks      what breaking lines leaves: the best lines of whatever words were measured
--   Leaves      all else stays as it was
--   line_costs  what a line costs
--   followed    how many words each line has, from slot to slot
--   Follows     slots with the best lines lead from line to line through the best way, and no step stays in its place or leaves the words
use Rattle.std.specs.Prelude.{◌≡◌, ℕ, zero, suc, ◌+◌, ◌-◌, ◌*◌, ◌<◌, ◌≤◌, Bool, List, [], ◌∷◌, length, drop, ◌≢◌, nat_le, nat_lt, slice_index, slice_index_or}
use Rattle.meaning.specs.Text.{pick}
use Rattle.meaning.specs.Lines.{Word, nothing_yet, long, best}

abbrev pub width_at : List ℕ → ℕ → ℕ
width_at xs k = slice_index xs (8 * k + 2)

abbrev pub cost_at : List ℕ → ℕ → ℕ
cost_at xs k = slice_index xs (8 * k + 3)

abbrev pub words_at : List ℕ → ℕ → ℕ
words_at xs k = slice_index xs (8 * k + 4)

pub record Bounds (xs : List ℕ) (n space width : ℕ) : Type 0 where
  pub room : 8 * n ≤ length xs
  pub few : n ≤ 4096
  pub gap : space ≤ 255
  pub across : width ≤ 1000
  pub each : (k : ℕ) → k < n → width_at xs k ≤ 1048576

pub record Measured (wide : ℕ → ℕ) (ws : List Word) (xs : List ℕ) (n space : ℕ) : Type 0 where
  pub as_many : length ws ≡ n
  pub gap : space ≡ wide 32
  pub each : (k : ℕ) → k < n → width_at xs k ≡ long wide (slice_index_or ws k nothing_yet).letters

pub record Solved (wide : ℕ → ℕ) (width : ℕ) (ws : List Word) (xs : List ℕ) (n : ℕ) : Type 0 where
  pub costs : (k : ℕ) → k < n → cost_at xs k ≡ (best wide width (drop k ws)).costs
  pub firsts : (k : ℕ) → k < n → words_at xs k ≡ slice_index (best wide width (drop k ws)).ks 0

abbrev pub Breaks : List ℕ → List ℕ → ℕ → ℕ → ℕ → Type 0
Breaks xs ys n space width = (wide : ℕ → ℕ) (ws : List Word) → Measured wide ws xs n space → Solved wide width ws ys n

-- every place but the cost and the words of the first n slots
pub record Leaves (xs ys : List ℕ) (n : ℕ) : Type 0 where
  pub as_long : length ys ≡ length xs
  pub others : (p : ℕ) → ((k : ℕ) → k < n → (p ≢ 8 * k + 3) × (p ≢ 8 * k + 4)) → slice_index ys p ≡ slice_index xs p

-- what a line costs whose words are so wide together
abbrev pub line_costs : ℕ → ℕ → Bool → ℕ
line_costs width natural is_last = pick (nat_le natural width) (pick is_last 0 ((width - natural) * (width - natural))) (10000000000 + (natural - width))

-- what stands in slot k as the least cost; behind the last there is none
abbrev pub cost_from : List ℕ → ℕ → ℕ → ℕ
cost_from xs n k = pick (nat_lt k n) (cost_at xs k) 0

-- at most so many steps
unfoldable pub followed : ℕ → List ℕ → ℕ → ℕ → List ℕ
followed zero xs n k = []
followed (suc steps) xs n k = pick (nat_lt k n) (words_at xs k ∷ followed steps xs n (k + words_at xs k)) []

pub record Follows (wide : ℕ → ℕ) (width : ℕ) (ws : List Word) (xs : List ℕ) (n : ℕ) : Type 0 where
  pub whole : (steps : ℕ) → n ≤ steps → followed steps xs n 0 ≡ (best wide width ws).ks
  pub some : (k : ℕ) → k < n → 0 < words_at xs k
  pub within : (k : ℕ) → k < n → k + words_at xs k ≤ n
  pub step : (k : ℕ) → k < n → (best wide width (drop k ws)).ks ≡ words_at xs k ∷ (best wide width (drop (k + words_at xs k) ws)).ks

abbrev pub LinesFollow : Type 0
LinesFollow = (wide : ℕ → ℕ) (width : ℕ) (ws : List Word) (xs : List ℕ) (n : ℕ) → length ws ≡ n → Solved wide width ws xs n → Follows wide width ws xs n
