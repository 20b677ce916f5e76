-- The paragraphs that stand in memory.
--   paragraphs_in      token bytes cut as the entries say
--   paragraphs_left    what an iterator over paragraphs has left
--   GivesParagraph     what a call of `next` gives
use Rattle.std.specs.Prelude.{ℕ, List, [], ◌∷◌, length, take, drop, Option, nat_le, slice_index}
use Rattle.std.specs.Borrow.{Bor}
use Rattle.std.specs.Iterator.{YieldsFirstRef}
use Rattle.meaning.specs.Text.{pick}
use Rattle.store.specs.declared.paragraphs.Paragraphs.{Paragraphs}

-- one behind another, each as many bytes as its entry says, as long as there are so many
unfoldable pub paragraphs_in : List ℕ → List (List ℕ) → List (List ℕ)
paragraphs_in ts [] = []
paragraphs_in ts (e ∷ es) = pick (nat_le (slice_index e 0) (length ts)) (take (slice_index e 0) ts ∷ paragraphs_in (drop (slice_index e 0) ts) es) []

abbrev pub paragraphs_left : Paragraphs → List (List ℕ)
paragraphs_left it = paragraphs_in it.tokens.now it.entries.now

abbrev pub GivesParagraph : Paragraphs → Option (Bor (List ℕ)) → Paragraphs → Type 0
GivesParagraph = YieldsFirstRef paragraphs_left
