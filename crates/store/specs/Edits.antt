-- Edits as the code has them.
--   edit_by, replacement_by       an edit as the specification has it, and as it is made in a book of so many paragraphs
--   entry_with                    the entry of a paragraph with these tokens
--   bytes_come, bulk_come, counts_come, entry_come   what comes: its bytes, how much it is, its counts, its entry
--   edit_in                  a replacement as an edit
--   Replaces                 what a replacement is made from
use Rattle.std.specs.Prelude.{◌≡◌, ℕ, ◌+◌, ◌*◌, ◌≤◌, true, List, [], ◌∷◌, length, Some, None, Option, nat_lt}
use Rattle.std.specs.Option.{option_map}
use Rattle.meaning.specs.Text.{pick}
use Rattle.store.specs.Kept.{kept_at, table_sum, is_open}
use Rattle.store.specs.Changes
use Rattle.store.specs.Changes.{spliced, put_edit, put_in_edit, cut_edit, entry_of}
use Rattle.store.specs.declared.changes.Content.{Content}
use Rattle.store.specs.declared.changes.Edit.{Edit}
use Rattle.store.specs.declared.changes.Edit.TheVariants.{Put, PutIn, Cut}
use Rattle.store.specs.declared.changes.Replacement.{Replacement}
use Rattle.store.specs.declared.kept.Counts.{Counts}
use Rattle.store.specs.declared.kept.Kept.{Kept}

abbrev pub edit_by : Edit → List ℕ → Changes.Edit
edit_by (Put k new) rs = put_edit k new.bytes.now new.size new.bulk rs
edit_by (PutIn k new) rs = put_in_edit k new.bytes.now new.size new.bulk
edit_by (Cut k) rs = cut_edit k

abbrev pub replacement_by : Edit → ℕ → Replacement
replacement_by (Put k new) n = record { at = k; gone = pick (nat_lt k n) 1 0; new = Some new }
replacement_by (PutIn k new) n = record { at = k; gone = 0; new = Some new }
replacement_by (Cut k) n = record { at = k; gone = 1; new = None }

abbrev pub entry_with : Content → List ℕ
entry_with new = length new.bytes.now ∷ (new.size ∷ (0 ∷ (0 ∷ [])))

abbrev pub bytes_in : Option Content → List ℕ
bytes_in (Some new) = new.bytes.now
bytes_in None = []

abbrev pub bulk_in : Option Content → ℕ
bulk_in (Some new) = new.bulk
bulk_in None = 0

abbrev pub counts_in_content : Option Content → Counts
counts_in_content (Some new) = record { entries = 1; size = new.size; bytes = length new.bytes.now }
counts_in_content None = record { entries = 0; size = 0; bytes = 0 }

abbrev pub bytes_come : Replacement → List ℕ
bytes_come c = bytes_in c.new

abbrev pub bulk_come : Replacement → ℕ
bulk_come c = bulk_in c.new

abbrev pub counts_come : Replacement → Counts
counts_come c = counts_in_content c.new

abbrev pub entry_come : Replacement → Option (List ℕ)
entry_come c = option_map entry_with c.new

abbrev pub edit_in : Replacement → Changes.Edit
edit_in c = record { at = c.at; gone = c.gone; come = (counts_come c).entries; bytes = bytes_come c; size = (counts_come c).size; bulk = bulk_come c }

-- what a replacement is made from: an open book, what is kept of it, and the counts of what stands before the place and of what goes
pub record Replaces (ts rs : List ℕ) (k : Kept) (before part : Counts) (c : Replacement) : Type 0 where
  pub opened : is_open (length ts) rs ≡ true
  pub same : k ≡ kept_at rs
  pub there : c.at + c.gone ≤ k.paragraphs.entries
  pub paragraphs_before : before.entries ≡ c.at
  pub paragraphs_gone : part.entries ≡ c.gone
  pub bytes_before : before.bytes ≡ table_sum 64 c.at rs
  pub bytes_gone : before.bytes + part.bytes ≡ table_sum 64 (c.at + c.gone) rs
  pub size_gone : table_sum 65 c.at rs + part.size ≡ table_sum 65 (c.at + c.gone) rs
  pub bytes_within : before.bytes + part.bytes ≤ k.paragraphs.bytes
  pub size_within : part.size ≤ k.paragraphs.size
  pub size_few : k.paragraphs.size ≤ k.limits.tokens
  pub bytes_few : k.paragraphs.bytes ≤ 2 * k.limits.tokens
  pub tokens_few : k.limits.tokens ≤ 65536
  pub paragraphs_few : k.limits.paragraphs ≤ 4096
  pub paragraphs_within : k.paragraphs.entries ≤ k.limits.paragraphs
  pub bulk_few : k.limits.bulk ≤ 4096
  pub tokens_long : 4 * k.limits.tokens ≤ length ts
  pub rest_long : 4096 + 8 * k.limits.paragraphs ≤ length rs
