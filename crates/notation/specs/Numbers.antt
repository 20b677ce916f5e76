-- Numbers in decimal digits.
--   value_of    what digits say
--   number_to   a number up to 255 in one digit or more, with an end byte, and what stands behind that
use Rattle.std.specs.Prelude.{ℕ, ◌+◌, ◌-◌, ◌*◌, cond, List, [], ◌∷◌, take, drop, Ok, Err, fold, Result, ◌==◌, nat_lt}
use Rattle.std.specs.Char.{is_ascii_digit}
use Rattle.std.specs.List.{prefix_len}
use Rattle.notation.specs.declared.fault.Fault.{Fault}
use Rattle.notation.specs.declared.fault.Fault.TheVariants.{NoToken, TooLarge}

abbrev pub value_of : List ℕ → ℕ
value_of ds = fold (λ n d. 10 * n + (d - 48)) 0 ds

abbrev pub ended_by : ℕ → ℕ → List ℕ → Result (ℕ × List ℕ) Fault
ended_by end n [] = Err NoToken
ended_by end n (b ∷ bs) = cond (b == end) (cond (nat_lt n 256) (Ok (n, bs)) (Err TooLarge)) (Err NoToken)

abbrev pub number_in : ℕ → ℕ → List ℕ → Result (ℕ × List ℕ) Fault
number_in end len bs = cond (len == 0) (Err NoToken) (ended_by end (value_of (take len bs)) (drop len bs))

unfoldable pub number_to : ℕ → List ℕ → Result (ℕ × List ℕ) Fault
number_to end bs = number_in end (prefix_len is_ascii_digit bs) bs
