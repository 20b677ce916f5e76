-- What paragraphs count together, and a book that was found open, as the code has them.
--   counts_in       the counts of a table's entries; a sum that is too large to tell is the largest number
--   OpenBook        an open book: what is kept of it, and its paragraphs' entries
use Rattle.std.specs.Prelude.{◌≡◌, ℕ, ◌*◌, min, Bool, true, ◌&&◌, List, length, sum_by, nat_le, slice_index}
use Rattle.store.specs.declared.kept.Counts.{Counts}
use Rattle.store.specs.declared.kept.Kept.{Kept}
use Rattle.store.specs.declared.opening.Limits.{Limits}
use Rattle.store.specs.Kept.{kept_at, is_open, entries_at}

abbrev pub largest : ℕ
largest = 18446744073709551615

abbrev pub counts_in : List (List ℕ) → Counts
counts_in es =
    record { entries = length es; size = min (sum_by (λ e. slice_index e 1) es) largest; bytes = min (sum_by (λ e. slice_index e 0) es) largest }

pub record OpenBook (ts rs : List ℕ) (k : Kept) (es : List (List ℕ)) : Type 0 where
  pub opened : is_open (length ts) rs ≡ true
  pub same : k ≡ kept_at rs
  pub entries : es ≡ entries_at rs
  pub long : length es ≡ k.paragraphs.entries
