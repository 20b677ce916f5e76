-- Rows of letters as text, and how they are read from their bytes.
--   letter_text, row_text, rows_text   a letter with its place, a row, and rows each on a line of its own
--   letters_of, row_first              the letters of a row, the first row and what stands behind it
--   rows_in, rows_of                   just so many rows, and as many as the first byte says
--   placed                             a letter of the code
use Rattle.std.specs.Prelude.{ℕ, zero, suc, ◌+◌, ◌*◌, cond, ◌&&◌, List, [], ◌∷◌, ◌++◌, length, take, drop, Some, None, codes, decimal, Option, nat_le}
use Rattle.std.specs.Option.{option_map}
use Rattle.meaning.specs.Lines.{Placed}
use Rattle.wire.specs.Bytes.{two_at, four_at}
use Rattle.text.specs.declared.rows.Letter.{Letter}

-- a letter is shown as it is, and anything else as a question mark
abbrev pub seen : ℕ → ℕ
seen c = cond (nat_le 33 c && nat_le c 126) c 63

abbrev pub letter_text : Placed → List ℕ
letter_text p = seen p.what ∷ (32 ∷ decimal p.at)

unfoldable pub spaced : List Placed → List ℕ
spaced [] = []
spaced (p ∷ ps) = 32 ∷ (letter_text p ++ spaced ps)

abbrev pub row_text : List Placed → List ℕ
row_text [] = []
row_text (p ∷ ps) = letter_text p ++ spaced ps

unfoldable pub lines_text : List (List Placed) → List ℕ
lines_text [] = []
lines_text (r ∷ rs) = 10 ∷ (row_text r ++ lines_text rs)

abbrev pub rows_text : List (List Placed) → List ℕ
rows_text rs = codes "rows " ++ (decimal (length rs) ++ lines_text rs)

unfoldable pub letters_of : List ℕ → List Placed
letters_of [] = []
letters_of (c ∷ []) = []
letters_of (c ∷ (i ∷ [])) = []
letters_of (c ∷ (i ∷ (j ∷ []))) = []
letters_of (c ∷ (i ∷ (j ∷ (k ∷ [])))) = []
letters_of (c ∷ (i ∷ (j ∷ (k ∷ (l ∷ bs))))) = record { at = four_at (i ∷ (j ∷ (k ∷ (l ∷ [])))) 0; what = c } ∷ letters_of bs

-- the bytes of its letters, and what stands behind them
unfoldable pub row_first : List ℕ → Option (List ℕ × List ℕ)
row_first bs =
    let n : ℕ = 5 * two_at bs 0 in
    cond (nat_le (2 + n) (length bs)) (Some (take n (drop 2 bs), drop (2 + n) bs)) None

abbrev pub row_then : (List ℕ → Option (List (List Placed))) → Option (List ℕ × List ℕ) → Option (List (List Placed))
row_then go_on None = None
row_then go_on (Some p) = option_map (λ rs. letters_of p.0 ∷ rs) (go_on p.1)

unfoldable pub rows_in : ℕ → List ℕ → Option (List (List Placed))
rows_in zero [] = Some []
rows_in zero (b ∷ bs) = None
rows_in (suc n) bs = row_then (rows_in n) (row_first bs)

-- the first byte says how many
abbrev pub rows_of : List ℕ → Option (List (List Placed))
rows_of [] = None
rows_of (n ∷ bs) = rows_in n bs

abbrev pub placed : Letter → Placed
placed l = record { at = l.at; what = l.what }
