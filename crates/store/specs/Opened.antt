-- What memory holds when a book has been opened.
--   limits_of, looks_of   the limits and looks of the code, as the meaning has them
--   in_range              what a book can be opened with
--   tokens_asked, rest_asked, asking   how much memory is asked for
--   header, opened        what it holds then
--   Opens                 what opening answers, and leaves in both slices
--   InRangeGood, OpenedSound   laws: what is let through is good, and what is opened is as large as asked for
use Rattle.std.specs.Prelude.{◌≡◌, ℕ, ◌+◌, ◌-◌, ◌*◌, ◌≤◌, Bool, true, cond, ◌&&◌, List, [], ◌∷◌, ◌++◌, map, length, replicate, is_ok, Some, None, Ok, Err, Option, Result, nat_le, slice_index_or}
use Rattle.std.specs.List.{range_with_len, list_all}
use Rattle.meaning.specs.Text.{pick}
use Rattle.meaning.specs.Pages
use Rattle.meaning.specs.Calls
use Rattle.meaning.specs.Promise.{Memory, GoodLooks, GoodLimits, all_below}
use Rattle.wire.specs.Bytes.{over}
use Rattle.wire.specs.Stage.{stage_tokens, stage_calls}
use Rattle.wire.specs.declared.refusal.Refusal.{Refusal}
use Rattle.wire.specs.declared.refusal.Refusal.TheVariants.{ShortTokens, ShortRest, BadOpening}
use Rattle.store.specs.declared.opening.Limits.{Limits}
use Rattle.store.specs.declared.opening.Looks.{Looks}
use Rattle.store.specs.declared.opening.Asked.{Asked}

abbrev pub limits_of : Limits → Calls.Limits
limits_of l = record { tokens_can = stage_tokens; calls_can = stage_calls; paragraphs = l.paragraphs; tokens = l.tokens; definitions = l.definitions; bulk = l.bulk }

-- a letter that the table leaves out is 1 wide
abbrev pub looks_of : Looks → Pages.Looks
looks_of g = record { wide = λ c. slice_index_or g.widths (c - 32) 1; across = g.width; rows = g.rows }

abbrev pub all_within : ℕ → ℕ → List ℕ → Bool
all_within low high = list_all (λ x. nat_le low x && nat_le x high)

abbrev pub limits_in_range : Limits → Bool
limits_in_range l = nat_le l.paragraphs 4096 && (nat_le l.tokens 65536 && (nat_le l.definitions 1024 && nat_le l.bulk 4096))

-- how wide lines are, and how many rows a page has
abbrev pub page_in_range : ℕ → ℕ → Bool
page_in_range width rows = (nat_le 1 width && nat_le width 1000) && (nat_le 1 rows && nat_le rows 255)

abbrev pub looks_in_range : Looks → Bool
looks_in_range g = page_in_range g.width g.rows && all_within 1 63 g.widths

abbrev pub in_range : Limits → Looks → Bool
in_range l g = limits_in_range l && looks_in_range g

abbrev pub tokens_asked : Calls.Limits → ℕ
tokens_asked l = 4 * l.tokens

-- of the numbers, what is kept of paragraphs comes first; the others are for definitions and for work
abbrev pub kept_asked : Calls.Limits → ℕ
kept_asked l = 64 + 4 * l.paragraphs

abbrev pub words_asked : Calls.Limits → ℕ
words_asked l = 4 * l.paragraphs + 8 * (l.tokens + l.definitions) + 32 * l.bulk + 4032

abbrev pub rest_asked : Calls.Limits → ℕ
rest_asked l = kept_asked l + words_asked l

abbrev pub asking : Limits → Looks → Option Asked
asking l g = pick (in_range l g) (Some (record { tokens = tokens_asked (limits_of l); rest = rest_asked (limits_of l) })) None

-- the widths of eight letters from c on, a byte each, the first the lowest
unfoldable pub packed : (ℕ → ℕ) → ℕ → ℕ
packed wide c =
    wide c + wide (c + 1) * 256 + wide (c + 2) * 65536 + wide (c + 3) * 16777216 + wide (c + 4) * 4294967296 + wide (c + 5) * 1099511627776
    + wide (c + 6) * 281474976710656
    + wide (c + 7) * 72057594037927936

abbrev pub packed_widths : (ℕ → ℕ) → List ℕ
packed_widths wide = map (λ k. packed wide (32 + 8 * k)) (range_with_len 0 12)

--  0 paragraphs, 1 tokens, 2 definitions, 3 bulk: the limits
--  4 paragraphs, 5 their size, 6 their bytes, 7 definitions, 8 their size, 9 their bytes: what there is
-- 10 line width, 11 rows of a page, 12 to 23 the letters' widths, and 0 in what is left
unfoldable pub header : Calls.Limits → Pages.Looks → List ℕ
header l g =
    (l.paragraphs ∷ (l.tokens ∷ (l.definitions ∷ (l.bulk ∷ (0 ∷ (0 ∷ (0 ∷ (0 ∷ (0 ∷ (0 ∷ (g.across ∷ (g.rows ∷ []))))))))))))
    ++ (packed_widths g.wide ++ replicate 40 0)

abbrev pub header_of : Limits → Looks → List ℕ
header_of l g = header (limits_of l) (looks_of g)

unfoldable pub opened : Calls.Limits → Pages.Looks → Memory
opened l g =
    record { tokens = replicate (tokens_asked l) 0; words = replicate (words_asked l) 0; kept = header l g ++ replicate (4 * l.paragraphs) 0 }

-- numbers are lent in one slice: what is kept, then the words
abbrev pub rest_of : Memory → List ℕ
rest_of m = m.kept ++ m.words

-- what is out of range comes first, then the bytes for tokens, then the numbers
abbrev pub opening : Limits → Looks → ℕ → ℕ → Result (Unit {0}) Refusal
opening l g bytes numbers =
    pick (in_range l g)
    (pick (nat_le (tokens_asked (limits_of l)) bytes) (pick (nat_le (rest_asked (limits_of l)) numbers) (Ok tt) (Err ShortRest)) (Err ShortTokens))
    (Err BadOpening)

pub record Opens (l : Limits) (g : Looks) (ts rs ts' rs' : List ℕ) (r : Result (Unit {0}) Refusal) : Type 0 where
  pub value : r ≡ opening l g (length ts) (length rs)
  pub tokens : ts' ≡ cond (is_ok r) (over (opened (limits_of l) (looks_of g)).tokens ts) ts
  pub rest : rs' ≡ cond (is_ok r) (over (rest_of (opened (limits_of l) (looks_of g))) rs) rs

-- memory as large as it says, within what a book may ask for, of bytes and of numbers of 64 bits
pub record Sound (l : Calls.Limits) (m : Memory) : Type 0 where
  pub tokens_long : length m.tokens ≡ tokens_asked l
  pub tokens_few : tokens_asked l ≤ 4 * l.tokens
  pub tokens_fit : all_below 256 m.tokens ≡ true
  pub rest_long : length m.words + length m.kept ≡ rest_asked l
  pub rest_few : rest_asked l ≤ 8 * (l.paragraphs + l.tokens + l.definitions) + 32 * l.bulk + 4096
  pub words_fit : all_below 18446744073709551616 m.words ≡ true
  pub kept_few : length m.kept ≤ 4 * l.paragraphs + 64
  pub kept_fit : all_below 18446744073709551616 m.kept ≡ true

-- what is in range is good for the meaning
abbrev pub InRangeGood : Type 0
InRangeGood = (l : Limits) (g : Looks) → in_range l g ≡ true → GoodLimits (limits_of l) × GoodLooks (looks_of g)

abbrev pub OpenedSound : Type 0
OpenedSound = (l : Calls.Limits) (g : Pages.Looks) → GoodLooks g → GoodLimits l → Sound l (opened l g)
