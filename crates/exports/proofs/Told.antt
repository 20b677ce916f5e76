-- The number of an answer, from the bytes that it stands in.
use Rattle.std.proofs.Common.{◌≡◌, ℕ, List, [], length, get_or, pos, ap, ◌∙◌, ap₂, arith}
use Rattle.meaning.specs.Calls.{Answer, done, refused, rows, numbers}
use Rattle.wire.specs.Bytes.{four_at, answer_bytes}
use Rattle.wire.proofs.Fields.{four_at_four}
use Rattle.exports.specs.Numbers.{refusing, told_number}

first : List ℕ → ℕ
first xs = get_or xs 0 0

-- an answer that has not six bytes, or whose first byte is not 1, is no refusal
pub told_length : (a : Answer) (bytes : List ℕ) → bytes ≡ answer_bytes a → (length bytes ≡ 6 → get_or bytes 0 0 ≡ 1 → ⊥) → pos (length bytes) ≡ told_number a
unfolding answer_bytes first
told_length done bytes e other = ap (λ (xs : List ℕ). pos (length xs)) e
told_length (refused k p) bytes e other = absurd (other (ap length e) (ap first e))
told_length (rows rs) bytes e other = ap (λ (xs : List ℕ). pos (length xs)) e
told_length (numbers i j) bytes e other = ap (λ (xs : List ℕ). pos (length xs)) e

-- one whose first byte is 1 is a refusal, with its number and place behind it
pub told_refusal : (a : Answer) (bytes : List ℕ) → bytes ≡ answer_bytes a → get_or bytes 0 0 ≡ 1 → refusing (get_or bytes 1 0) (four_at bytes 2) ≡ told_number a
unfolding answer_bytes first
told_refusal done bytes e one = absurd (omega (arith, ap first e))
told_refusal (refused k p) bytes e one = ap₂ refusing (ap (λ (xs : List ℕ). get_or xs 1 0) e) (ap (λ (xs : List ℕ). four_at xs 2) e ∙ four_at_four p [])
told_refusal (rows rs) bytes e one = absurd (omega (arith, ap first e))
told_refusal (numbers i j) bytes e one = absurd (omega (arith, ap first e))
