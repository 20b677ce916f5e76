-- The changes to a book in lent memory.
--   spliced              numbers that give way to others in a row
--   Edit                 a place in the row of paragraphs: how many go, how many come, and what comes
--   edited_tokens, edited_rest   both slices after an edit
--   has_room             whether the limits allow it
--   put_edit, put_in_edit, cut_edit   the three calls as edits
--   paragraph_at         a paragraph's bytes, read back
--   Changes              what a change answers, and leaves in both slices
use Rattle.std.specs.Prelude.{◌≡◌, ℕ, ◌+◌, ◌-◌, ◌*◌, max, Bool, cond, ◌&&◌, List, [], ◌∷◌, ◌++◌, length, take, drop, replicate, is_ok, Some, None, Ok, Err, Option, Result, ◌==◌, nat_le, nat_lt, slice_index, slice_set}
use Rattle.meaning.specs.Text.{pick}
use Rattle.wire.specs.declared.refusal.Refusal.{Refusal}
use Rattle.wire.specs.declared.refusal.Refusal.TheVariants.{BadOpening, NoParagraph, TooMuch}
use Rattle.store.specs.declared.kept.Counts.{Counts}
use Rattle.store.specs.Kept.{limits_at, definitions_at, counts_within, table_sum, is_open}

-- b numbers from a on give way to new ones; the t numbers behind them follow, and what is freed is 0
unfoldable pub spliced : List ℕ → ℕ → ℕ → ℕ → List ℕ → List ℕ
spliced xs a b t new = take a xs ++ (new ++ (take t (drop (a + b) xs) ++ (replicate (b - length new) 0 ++ drop (a + max b (length new) + t) xs)))

-- before paragraph `at`, so many go and so many come, none or one of each; what comes has a size as tokens, and is so much as a paragraph
pub record Edit : Type 0 where
  pub at : ℕ
  pub gone : ℕ
  pub come : ℕ
  pub bytes : List ℕ
  pub size : ℕ
  pub bulk : ℕ

-- the bytes, and the size, of the paragraphs that go
abbrev pub bytes_gone : Edit → List ℕ → ℕ
bytes_gone e rs = table_sum 64 (e.at + e.gone) rs - table_sum 64 e.at rs

abbrev pub size_gone : Edit → List ℕ → ℕ
size_gone e rs = table_sum 65 (e.at + e.gone) rs - table_sum 65 e.at rs

-- the counts in the header afterwards
abbrev pub paragraphs_after : Edit → List ℕ → ℕ
paragraphs_after e rs = slice_index rs 4 - e.gone + e.come

abbrev pub size_after : Edit → List ℕ → ℕ
size_after e rs = slice_index rs 5 - size_gone e rs + e.size

abbrev pub bytes_after : Edit → List ℕ → ℕ
bytes_after e rs = slice_index rs 6 - bytes_gone e rs + length e.bytes

-- the new entry: bytes, size, and two numbers for what will be kept of lines
abbrev pub entry_of : Edit → List ℕ
entry_of e = pick (e.come == 0) [] (length e.bytes ∷ (e.size ∷ (0 ∷ (0 ∷ []))))

unfoldable pub edited_tokens : Edit → List ℕ → List ℕ → List ℕ
edited_tokens e ts rs = spliced ts (table_sum 64 e.at rs) (bytes_gone e rs) (slice_index rs 6 - table_sum 64 (e.at + e.gone) rs) e.bytes

unfoldable pub edited_rest : Edit → List ℕ → List ℕ
edited_rest e rs =
    slice_set (slice_set (slice_set (spliced rs (64 + 4 * e.at) (4 * e.gone) (4 * (slice_index rs 4 - (e.at + e.gone))) (entry_of e)) 4 (paragraphs_after e rs)) 5 (size_after e rs)) 6 (bytes_after e rs)

abbrev pub counts_after : Edit → List ℕ → Counts
counts_after e rs = record { entries = paragraphs_after e rs; size = size_after e rs; bytes = bytes_after e rs }

-- what one paragraph may be, and how much there may be in all
abbrev pub has_room : Edit → List ℕ → Bool
has_room e rs = nat_le e.bulk (slice_index rs 3) && counts_within (counts_after e rs) (definitions_at rs) (limits_at rs)

abbrev pub put_edit : ℕ → List ℕ → ℕ → ℕ → List ℕ → Edit
put_edit k bs n b rs = record { at = k; gone = pick (nat_lt k (slice_index rs 4)) 1 0; come = 1; bytes = bs; size = n; bulk = b }

abbrev pub put_in_edit : ℕ → List ℕ → ℕ → ℕ → Edit
put_in_edit k bs n b = record { at = k; gone = 0; come = 1; bytes = bs; size = n; bulk = b }

abbrev pub cut_edit : ℕ → Edit
cut_edit k = record { at = k; gone = 1; come = 0; bytes = []; size = 0; bulk = 0 }

-- where paragraphs behind the last are not there, by 4, and where there is no room, by 6
abbrev pub editing : Edit → ℕ → List ℕ → Result (Unit {0}) Refusal
editing e bytes rs =
    pick (is_open bytes rs) (pick (nat_le (e.at + e.gone) (slice_index rs 4)) (pick (has_room e rs) (Ok tt) (Err TooMuch)) (Err (NoParagraph e.at))) (Err BadOpening)

pub record Changes (e : Edit) (ts rs ts' rs' : List ℕ) (r : Result (Unit {0}) Refusal) : Type 0 where
  pub value : r ≡ editing e (length ts) rs
  pub tokens : ts' ≡ cond (is_ok r) (edited_tokens e ts rs) ts
  pub rest : rs' ≡ cond (is_ok r) (edited_rest e rs) rs

-- paragraph k stands behind the bytes of those before it
abbrev pub paragraph_at : List ℕ → List ℕ → ℕ → Option (List ℕ)
paragraph_at ts rs k =
    pick (is_open (length ts) rs && nat_lt k (slice_index rs 4)) (Some (take (slice_index rs (64 + 4 * k)) (drop (table_sum 64 k rs) ts))) None
