-- A number's bytes, the most significant first.
use Rattle.std.proofs.Common.{◌≡◌, ℕ, ◌/◌, ◌%◌, ◌<◌, [], ◌∷◌, arith}
use Rattle.wire.specs.Bytes.{two, four}

pub two_bytes : (n : ℕ) → n < 65536 → n / 256 % 256 ∷ (n % 256 ∷ []) ≡ two n
two_bytes n h = let high : n / 256 % 256 ≡ n / 256 = omega arith in λ i. high i ∷ (n % 256 ∷ [])

pub four_bytes : (n : ℕ) → n < 4294967296 → n / 16777216 % 256 ∷ (n / 65536 % 256 ∷ (n / 256 % 256 ∷ (n % 256 ∷ []))) ≡ four n
four_bytes n h = let high : n / 16777216 % 256 ≡ n / 16777216 = omega arith in λ i. high i ∷ (n / 65536 % 256 ∷ (n / 256 % 256 ∷ (n % 256 ∷ [])))
