-- What bytes mean: calls and answers as rows of numbers below 256.
--   two, four             a number as its bytes, the most significant first
--   over                  a row written over the start of another
--   call_bytes            the form of a call
--   answer_bytes          the form of an answer
--   parsed, tokens_of     the tokens that bytes begin with, and where they cease to be tokens
--   reading               the call that bytes are, or the place where they cease to be one
use Rattle.std.specs.Prelude.{ℕ, zero, suc, ◌+◌, ◌-◌, ◌*◌, ◌/◌, ◌%◌, List, [], ◌∷◌, ◌++◌, length, drop, nat_lt, slice_index}
use Rattle.meaning.specs.Text.{pick, Token, letter, space, mark, page_of, note, command, given, Tokens, none, more, all_written}
use Rattle.meaning.specs.Lines.{Placed}
use Rattle.meaning.specs.Calls.{Call, put, cut, define, show, where_is, how_many, put_in, Answer, done, refused, rows, numbers}

abbrev pub two : ℕ → List ℕ
two n = n / 256 ∷ (n % 256 ∷ [])

abbrev pub four : ℕ → List ℕ
four n = n / 16777216 ∷ (n / 65536 % 256 ∷ (n / 256 % 256 ∷ (n % 256 ∷ [])))

-- written from the start of a row, which keeps its tail
abbrev pub over : List ℕ → List ℕ → List ℕ
over xs ys = xs ++ drop (length xs) ys

-- a byte for the call, its numbers in two bytes, a page's in four, and tokens to the end
unfoldable pub call_bytes : Call → List ℕ
call_bytes (put k ts) = 0 ∷ (two k ++ all_written ts)
call_bytes (cut k) = 1 ∷ two k
call_bytes (define k ts) = 2 ∷ (two k ++ all_written ts)
call_bytes (show k r n) = 3 ∷ (four k ++ (two r ++ two n))
call_bytes (where_is q) = 4 ∷ two q
call_bytes how_many = 5 ∷ []
call_bytes (put_in k ts) = 6 ∷ (two k ++ all_written ts)

-- a letter with its place
unfoldable pub letters_bytes : List Placed → List ℕ
letters_bytes [] = []
letters_bytes (p ∷ ps) = p.what ∷ (four p.at ++ letters_bytes ps)

abbrev pub row_bytes : List Placed → List ℕ
row_bytes ps = two (length ps) ++ letters_bytes ps

unfoldable pub rows_bytes : List (List Placed) → List ℕ
rows_bytes [] = []
rows_bytes (r ∷ rs) = row_bytes r ++ rows_bytes rs

-- 0 done; 1, the refusal's number in a byte and its place in four; 2, how many rows in a byte, and the rows; 3 and two numbers in four bytes each
unfoldable pub answer_bytes : Answer → List ℕ
answer_bytes done = 0 ∷ []
answer_bytes (refused n p) = 1 ∷ (n ∷ four p)
answer_bytes (rows rs) = 2 ∷ (length rs ∷ rows_bytes rs)
answer_bytes (numbers a b) = 3 ∷ (four a ++ four b)

-- tokens, and what is left: at `whole` nothing or an end byte, 7; at `broken` what is no token, which may be nothing where bytes are missing
pub data Parsed : Type 0 where
  whole : Tokens → List ℕ → Parsed
  broken : Tokens → List ℕ → Parsed

abbrev pub before : Token → Parsed → Parsed
before t (whole ts bs) = whole (more t ts) bs
before t (broken ts bs) = broken (more t ts) bs

-- what a note or a command holds ends with a 7, and behind it tokens go on
abbrev pub closed : (Tokens → Token) → (List ℕ → Parsed) → Parsed → Parsed
closed make go_on (whole ts []) = broken none []
closed make go_on (whole ts (x ∷ bs)) = before (make ts) (go_on bs)
closed make go_on (broken ts bs) = broken none bs

-- a token whose number stands in the next byte
abbrev pub numbered : (ℕ → Token) → (List ℕ → Parsed) → List ℕ → Parsed
numbered make go_on [] = broken none []
numbered make go_on (x ∷ bs) = before (make x) (go_on bs)

abbrev pub commanded : (List ℕ → Parsed) → List ℕ → Parsed
commanded go_on [] = broken none []
commanded go_on (k ∷ bs) = closed (command k) go_on (go_on bs)

-- by the first byte, and with what follows read by go_on
unfoldable pub token_first : (List ℕ → Parsed) → ℕ → List ℕ → Parsed
token_first go_on zero bs = numbered letter go_on bs
token_first go_on (suc zero) bs = before space (go_on bs)
token_first go_on (suc (suc zero)) bs = numbered mark go_on bs
token_first go_on (suc (suc (suc zero))) bs = numbered page_of go_on bs
token_first go_on (suc (suc (suc (suc zero)))) bs = closed note go_on (go_on bs)
token_first go_on (suc (suc (suc (suc (suc zero))))) bs = commanded go_on bs
token_first go_on (suc (suc (suc (suc (suc (suc zero)))))) bs = before given (go_on bs)
token_first go_on (suc (suc (suc (suc (suc (suc (suc zero))))))) bs = whole none (7 ∷ bs)
token_first go_on (suc (suc (suc (suc (suc (suc (suc (suc k)))))))) bs = broken none (suc (suc (suc (suc (suc (suc (suc (suc k))))))) ∷ bs)

-- in so many steps at most, of which each takes a byte or more
unfoldable pub parsed_in : ℕ → List ℕ → Parsed
parsed_in n [] = whole none []
parsed_in zero (x ∷ bs) = broken none (x ∷ bs)
parsed_in (suc n) (x ∷ bs) = token_first (parsed_in n) x bs

abbrev pub parsed : List ℕ → Parsed
parsed bs = parsed_in (length bs) bs

-- the tokens before the first place that is none
abbrev pub parsed_tokens : Parsed → Tokens
parsed_tokens (whole ts bs) = ts
parsed_tokens (broken ts bs) = ts

abbrev pub tokens_of : List ℕ → Tokens
tokens_of bs = parsed_tokens (parsed bs)

pub data Reading : Type 0 where
  is_call : Call → Reading
  stops : ℕ → Reading  -- at the first byte that doesn't fit, or at the end where bytes are missing

abbrev pub two_at : List ℕ → ℕ → ℕ
two_at bs i = slice_index bs i * 256 + slice_index bs (i + 1)

abbrev pub four_at : List ℕ → ℕ → ℕ
four_at bs i = slice_index bs i * 16777216 + slice_index bs (i + 1) * 65536 + slice_index bs (i + 2) * 256 + slice_index bs (i + 3)

-- a call that has just so many bytes of numbers behind its first byte
abbrev pub exactly : ℕ → List ℕ → Call → Reading
exactly n bs c = pick (nat_lt (length bs) n) (stops (1 + length bs)) (pick (nat_lt n (length bs)) (stops (1 + n)) (is_call c))

-- tokens to the end, which begin at a place
abbrev pub to_the_end : (Tokens → Call) → ℕ → List ℕ → Parsed → Reading
to_the_end make at bs (whole ts []) = is_call (make ts)
to_the_end make at bs (whole ts (x ∷ left)) = stops (at + (length bs - length (x ∷ left)))
to_the_end make at bs (broken ts left) = stops (at + (length bs - length left))

-- a call that has a number in two bytes, and tokens
abbrev pub with_tokens : (ℕ → Tokens → Call) → List ℕ → Reading
with_tokens make bs =
    pick (nat_lt (length bs) 2) (stops (1 + length bs)) (to_the_end (make (two_at bs 0)) 3 (drop 2 bs) (parsed (drop 2 bs)))

unfoldable pub reading_by : ℕ → List ℕ → Reading
reading_by zero bs = with_tokens put bs
reading_by (suc zero) bs = exactly 2 bs (cut (two_at bs 0))
reading_by (suc (suc zero)) bs = with_tokens define bs
reading_by (suc (suc (suc zero))) bs = exactly 8 bs (show (four_at bs 0) (two_at bs 4) (two_at bs 6))
reading_by (suc (suc (suc (suc zero)))) bs = exactly 2 bs (where_is (two_at bs 0))
reading_by (suc (suc (suc (suc (suc zero))))) bs = exactly 0 bs how_many
reading_by (suc (suc (suc (suc (suc (suc zero)))))) bs = with_tokens put_in bs
reading_by (suc (suc (suc (suc (suc (suc (suc k))))))) bs = stops 0

unfoldable pub reading : List ℕ → Reading
reading [] = stops 0
reading (x ∷ bs) = reading_by x bs
