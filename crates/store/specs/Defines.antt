-- A definition in memory: it stands behind all others, and the one that its number had before goes.
--   Defining         what is defined: a number, its tokens' bytes, and their size
--   place_of         where the definition of a number stands among them, or how many there are
--   defined_tokens, defined_rest   both slices afterwards
--   may_define       whether the limits allow it
--   Defines          what defining answers, and leaves in both slices
use Rattle.std.specs.Prelude.{◌≡◌, ℕ, ◌+◌, ◌-◌, ◌*◌, max, Bool, cond, List, [], ◌∷◌, ◌++◌, length, take, drop, replicate, is_ok, Ok, Err, Result, ◌==◌, nat_lt, slice_index, slice_set}
use Rattle.std.specs.List.{position_or_len}
use Rattle.meaning.specs.Text.{pick}
use Rattle.wire.specs.declared.refusal.Refusal.{Refusal}
use Rattle.wire.specs.declared.refusal.Refusal.TheVariants.{BadOpening, TooMuch}
use Rattle.store.specs.declared.kept.Counts.{Counts}
use Rattle.store.specs.Kept.{limits_at, counts_at, counts_within, first_definition, table_sum, defined_at, is_open}
use Rattle.store.specs.Splices.{replaced_last}

pub record Defining : Type 0 where
  pub number : ℕ
  pub bytes : List ℕ
  pub size : ℕ

-- an entry's third number
abbrev pub has_number : ℕ → List ℕ → Bool
has_number k e = slice_index e 2 == k

abbrev pub place_of : ℕ → List ℕ → ℕ
place_of k rs = position_or_len (has_number k) (defined_at rs)

-- how many go: none or one
abbrev pub old_ones : ℕ → List ℕ → ℕ
old_ones k rs = pick (nat_lt (place_of k rs) (slice_index rs 7)) 1 0

-- of those before it, and of it too, what stands in their entries from a place on, added up
abbrev pub sum_before : ℕ → ℕ → List ℕ → ℕ
sum_before j k rs = table_sum (first_definition rs + j) (place_of k rs) rs

abbrev pub sum_with : ℕ → ℕ → List ℕ → ℕ
sum_with j k rs = table_sum (first_definition rs + j) (place_of k rs + old_ones k rs) rs

abbrev pub counts_defined : Defining → List ℕ → Counts
counts_defined d rs =
    record {
      entries = slice_index rs 7 - old_ones d.number rs + 1;
      size = slice_index rs 8 - (sum_with 1 d.number rs - sum_before 1 d.number rs) + d.size;
      bytes = slice_index rs 9 - (sum_with 0 d.number rs - sum_before 0 d.number rs) + length d.bytes;
    }

abbrev pub may_define : Defining → List ℕ → Bool
may_define d rs = counts_within (counts_at rs) (counts_defined d rs) (limits_at rs)

-- definitions' tokens stand in the second half of the bytes
unfoldable pub defined_tokens : Defining → List ℕ → List ℕ → List ℕ
defined_tokens d ts rs =
    replaced_last 0 ts (2 * slice_index rs 1 + sum_before 0 d.number rs) (sum_with 0 d.number rs - sum_before 0 d.number rs) (slice_index rs 9 - sum_with 0 d.number rs) d.bytes

abbrev pub entry_defined : Defining → List ℕ
entry_defined d = length d.bytes ∷ (d.size ∷ (d.number ∷ (0 ∷ [])))

unfoldable pub defined_rest : Defining → List ℕ → List ℕ
defined_rest d rs =
    let n : Counts = counts_defined d rs in
    slice_set (slice_set (slice_set (replaced_last 0 rs (first_definition rs + 4 * place_of d.number rs) (4 * old_ones d.number rs) (4 * (slice_index rs 7 - (place_of d.number rs + old_ones d.number rs))) (entry_defined d)) 7 n.entries) 8 n.size) 9 n.bytes

abbrev pub defining : Defining → ℕ → List ℕ → Result (Unit {0}) Refusal
defining d bytes rs = pick (is_open bytes rs) (pick (may_define d rs) (Ok tt) (Err TooMuch)) (Err BadOpening)

pub record Defines (d : Defining) (ts rs ts' rs' : List ℕ) (r : Result (Unit {0}) Refusal) : Type 0 where
  pub value : r ≡ defining d (length ts) rs
  pub tokens : ts' ≡ cond (is_ok r) (defined_tokens d ts rs) ts
  pub rest : rs' ≡ cond (is_ok r) (defined_rest d rs) rs
