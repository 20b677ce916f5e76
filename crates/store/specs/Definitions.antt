-- Definitions as the code has them.
--   defining_by       one as the specification has it
--   Redefines         what a new one is put from
use Rattle.std.specs.Prelude.{◌≡◌, ℕ, ◌+◌, ◌*◌, ◌≤◌, true, List, length}
use Rattle.store.specs.Kept.{kept_at, is_open}
use Rattle.store.specs.Defines.{Defining, place_of, old_ones, sum_before, sum_with}
use Rattle.store.specs.declared.defining.Definition.{Definition}
use Rattle.store.specs.declared.kept.Counts.{Counts}
use Rattle.store.specs.declared.kept.Kept.{Kept}

abbrev pub defining_by : Definition → Defining
defining_by d = record { number = d.number; bytes = d.bytes.now; size = d.size }

-- an open book, what is kept of it, and the counts of the definitions before the place and of what goes
pub record Redefines (ts rs : List ℕ) (k : Kept) (before part : Counts) (d : Definition) : Type 0 where
  pub opened : is_open (length ts) rs ≡ true
  pub same : k ≡ kept_at rs
  pub entries_before : before.entries ≡ place_of d.number rs
  pub entries_gone : part.entries ≡ old_ones d.number rs
  pub there : before.entries + part.entries ≤ k.definitions.entries
  pub bytes_before : before.bytes ≡ sum_before 0 d.number rs
  pub bytes_with : before.bytes + part.bytes ≡ sum_with 0 d.number rs
  pub size_with : sum_before 1 d.number rs + part.size ≡ sum_with 1 d.number rs
  pub bytes_within : before.bytes + part.bytes ≤ k.definitions.bytes
  pub size_within : part.size ≤ k.definitions.size
  pub size_few : k.definitions.size ≤ k.limits.tokens
  pub bytes_few : k.definitions.bytes ≤ 2 * k.limits.tokens
  pub tokens_few : k.limits.tokens ≤ 65536
  pub paragraphs_few : k.limits.paragraphs ≤ 4096
  pub definitions_few : k.limits.definitions ≤ 1024
  pub definitions_within : k.definitions.entries ≤ k.limits.definitions
  pub tokens_long : 4 * k.limits.tokens ≤ length ts
  pub rest_long : 4096 + 8 * (k.limits.paragraphs + k.limits.definitions) ≤ length rs
