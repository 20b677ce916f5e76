-- The lines of slots, each as the places of its words.
--   places       lines of so many words each, one behind another, from word k on
--   begins_line  whether slot k says of its line that it has a word at least, and no more than there are
--   lines_from   the lines from word k on, at most so many
--   lines_of     all of them
--   LinesLead    slots with the best lines give just these, each of so many words as they are followed
use Rattle.std.specs.Prelude.{◌≡◌, ℕ, zero, suc, ◌+◌, ◌-◌, ◌*◌, ◌/◌, Bool, ◌&&◌, List, [], ◌∷◌, map, length, nat_le, nat_lt}
use Rattle.std.specs.declared.ops.Range.{Range}
use Rattle.meaning.specs.Text.{pick}
use Rattle.meaning.specs.Lines.{Word, best}
use Rattle.linebreak.specs.Slots.{words_at, Solved, followed}

unfoldable pub places : ℕ → List ℕ → List (Range ℕ)
places k [] = []
places k (size ∷ sizes) = record { start = k; end = k + size } ∷ places (k + size) sizes

abbrev pub begins_line : List ℕ → ℕ → Bool
begins_line xs k = nat_lt 0 (words_at xs k) && nat_le (k + words_at xs k) (length xs / 8)

unfoldable pub lines_from : ℕ → List ℕ → ℕ → List (Range ℕ)
lines_from zero xs k = []
lines_from (suc steps) xs k = pick (begins_line xs k) (record { start = k; end = k + words_at xs k } ∷ lines_from steps xs (k + words_at xs k)) []

abbrev pub lines_of : List ℕ → List (Range ℕ)
lines_of xs = lines_from (length xs / 8) xs 0

pub record Leads (wide : ℕ → ℕ) (width : ℕ) (ws : List Word) (xs : List ℕ) (n : ℕ) : Type 0 where
  pub lines : lines_of xs ≡ places 0 (best wide width ws).ks
  pub sizes : map (λ (line : Range ℕ). line.end - line.start) (lines_of xs) ≡ followed n xs n 0

abbrev pub LinesLead : Type 0
LinesLead = (wide : ℕ → ℕ) (width : ℕ) (ws : List Word) (xs : List ℕ) (n : ℕ) → length ws ≡ n → length xs ≡ 8 * n → Solved wide width ws xs n → Leads wide width ws xs n
