-- The definitions that stand in memory.
--   defined_in          token bytes cut as the entries say, each with its number
--   definitions_left    what an iterator over definitions has left
--   plain               a definition as its number and its token bytes
--   GivesDefinition     what a call of `next` gives
use Rattle.std.specs.Prelude.{ℕ, ◌&&◌, List, [], ◌∷◌, length, take, drop, Option, nat_le, nat_lt, slice_index}
use Rattle.std.specs.Iterator.{YieldsFirstBy}
use Rattle.meaning.specs.Text.{pick}
use Rattle.store.specs.declared.definitions.Defined.{Defined}
use Rattle.store.specs.declared.definitions.Definitions.{Definitions}

-- one behind another, each as many bytes as its entry says, as long as there are so many and the number is a byte
unfoldable pub defined_in : List ℕ → List (List ℕ) → List (ℕ × List ℕ)
defined_in ts [] = []
defined_in ts (e ∷ es) =
    pick (nat_le (slice_index e 0) (length ts) && nat_lt (slice_index e 2) 256)
    ((slice_index e 2, take (slice_index e 0) ts) ∷ defined_in (drop (slice_index e 0) ts) es) []

abbrev pub definitions_left : Definitions → List (ℕ × List ℕ)
definitions_left it = defined_in it.tokens.now it.entries.now

abbrev pub plain : Defined → ℕ × List ℕ
plain d = (d.number, d.tokens.now)

abbrev pub GivesDefinition : Definitions → Option Defined → Definitions → Type 0
GivesDefinition = YieldsFirstBy plain definitions_left
