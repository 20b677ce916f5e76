-- How reading goes on.
--   then       goes on with what was read, and ends at a fault
--   in_front   bytes in front of what is said behind them
--   behind     what was read, with the bytes that stand behind it
use Rattle.std.specs.Prelude.{ℕ, List, ◌++◌, Ok, Err, Result}
use Rattle.std.specs.Borrow.{Bor}

abbrev pub then : {A B E : Type 0} → Result A E → (A → Result B E) → Result B E
then (Ok x) f = f x
then (Err e) f = Err e

abbrev pub in_front : {E : Type 0} → List ℕ → Result (List ℕ) E → Result (List ℕ) E
in_front ws said = then said (λ more. Ok (ws ++ more))

abbrev pub behind : {A E : Type 0} → Result (A × Bor (List ℕ)) E → Result (A × List ℕ) E
behind (Ok p) = Ok (p.0, p.1.now)
behind (Err e) = Err e
