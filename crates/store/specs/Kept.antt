-- What is kept of an open book, at the front of the numbers: the header, and four numbers for each paragraph.
--   limits_at, looks_at, counts_at, definitions_at, kept_at   what the header says
--   counts_within        whether the limits allow so many paragraphs and definitions
--   first_definition     where the definitions' entries begin
--   table_sum            a field of the entries of paragraphs or definitions, added up
--   entries_at, defined_at   the paragraphs' entries, and the definitions'
--   is_open              whether memory is an open book
--   unpacked, widths_at  the letters' widths, eight to a number
use Rattle.std.specs.Prelude.{ℕ, zero, suc, ◌+◌, ◌*◌, ◌/◌, ◌%◌, Bool, ◌&&◌, List, [], ◌∷◌, map, length, drop, ◌==◌, nat_le, slice_index}
use Rattle.std.specs.List.{range_with_len}
use Rattle.std.specs.Simd.{first_chunks}
use Rattle.store.specs.declared.opening.Limits.{Limits}
use Rattle.store.specs.declared.opening.Looks.{Looks}
use Rattle.store.specs.declared.kept.Counts.{Counts}
use Rattle.store.specs.declared.kept.Kept.{Kept}
use Rattle.store.specs.Opened.{limits_in_range, page_in_range, limits_of, tokens_asked, rest_asked}

abbrev pub limits_at : List ℕ → Limits
limits_at rs = record { paragraphs = slice_index rs 0; tokens = slice_index rs 1; definitions = slice_index rs 2; bulk = slice_index rs 3 }

abbrev pub limits_kept : List ℕ → Bool
limits_kept rs = limits_in_range (limits_at rs)

-- a number's eight bytes, the lowest first
unfoldable pub bytes_of : ℕ → List ℕ
bytes_of n =
    n % 256 ∷ (n / 256 % 256 ∷ (n / 65536 % 256 ∷ (n / 16777216 % 256 ∷ (n / 4294967296 % 256 ∷ (n / 1099511627776 % 256 ∷ (n / 281474976710656 % 256 ∷ (n / 72057594037927936 % 256 ∷ [])))))))

abbrev pub unpacked : (ℕ → ℕ) → List ℕ
unpacked number = map (λ k. slice_index (bytes_of (number (k / 8))) (k % 8)) (range_with_len 0 95)

abbrev pub widths_at : List ℕ → List ℕ
widths_at rs = unpacked (λ i. slice_index rs (12 + i))

abbrev pub looks_at : List ℕ → Looks
looks_at rs = record { widths = widths_at rs; width = slice_index rs 10; rows = slice_index rs 11 }

abbrev pub counts_at : List ℕ → Counts
counts_at rs = record { entries = slice_index rs 4; size = slice_index rs 5; bytes = slice_index rs 6 }

abbrev pub definitions_at : List ℕ → Counts
definitions_at rs = record { entries = slice_index rs 7; size = slice_index rs 8; bytes = slice_index rs 9 }

-- a token has two bytes at the most, and definitions have the second half of them
abbrev pub counts_within : Counts → Counts → Limits → Bool
counts_within p d l =
    (nat_le p.entries l.paragraphs && nat_le d.entries l.definitions)
    && (nat_le (p.size + d.size) l.tokens && (nat_le p.bytes (2 * l.tokens) && nat_le d.bytes (2 * l.tokens)))

abbrev pub kept_at : List ℕ → Kept
kept_at rs = record { limits = limits_at rs; looks = looks_at rs; paragraphs = counts_at rs; definitions = definitions_at rs }

-- behind the entries of all paragraphs that there may be
abbrev pub first_definition : List ℕ → ℕ
first_definition rs = 64 + 4 * slice_index rs 0

abbrev pub looks_kept : List ℕ → Bool
looks_kept rs = page_in_range (slice_index rs 10) (slice_index rs 11)

abbrev pub counts_kept : List ℕ → Bool
counts_kept rs = counts_within (counts_at rs) (definitions_at rs) (limits_at rs)

-- of the first n texts of a table, what stands in their entries at the place that is `first` in the first one
unfoldable pub table_sum : ℕ → ℕ → List ℕ → ℕ
table_sum first zero rs = 0
table_sum first (suc n) rs = table_sum first n rs + slice_index rs (first + 4 * n)

-- the paragraphs' entries, four numbers each
unfoldable pub entries_at : List ℕ → List (List ℕ)
entries_at rs = first_chunks 4 (slice_index rs 4) (drop 64 rs)

-- and the definitions'
unfoldable pub defined_at : List ℕ → List (List ℕ)
defined_at rs = first_chunks 4 (slice_index rs 7) (drop (first_definition rs) rs)

-- an entry has a text's bytes, then its size, and a definition's then its number
abbrev pub adds_up : ℕ → Counts → List ℕ → Bool
adds_up first n rs = table_sum first n.entries rs == n.bytes && table_sum (first + 1) n.entries rs == n.size

abbrev pub table_kept : List ℕ → Bool
table_kept rs = adds_up 64 (counts_at rs) rs && adds_up (first_definition rs) (definitions_at rs) rs

abbrev pub long_enough : ℕ → List ℕ → Bool
long_enough bytes rs = nat_le (tokens_asked (limits_of (limits_at rs))) bytes && nat_le (rest_asked (limits_of (limits_at rs))) (length rs)

unfoldable pub is_open : ℕ → List ℕ → Bool
is_open bytes rs = limits_kept rs && (long_enough bytes rs && (looks_kept rs && (counts_kept rs && table_kept rs)))
