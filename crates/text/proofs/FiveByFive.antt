-- Letters are taken from bytes five by five.
use Rattle.std.proofs.Common.{◌≡◌, ℕ, ◌<◌, ◌≤◌, List, [], ◌∷◌, length, take, drop, refl, arith}
use Rattle.wire.specs.Bytes.{four_at}
use Rattle.text.specs.Rows.{letters_of}

pub letters_none : (what : ℕ) (bs : List ℕ) → length bs < 4 → letters_of (what ∷ bs) ≡ []
unfolding letters_of
letters_none what [] h = refl
letters_none what (i ∷ []) h = refl
letters_none what (i ∷ (j ∷ [])) h = refl
letters_none what (i ∷ (j ∷ (k ∷ []))) h = refl
letters_none what (i ∷ (j ∷ (k ∷ (l ∷ bs)))) h = absurd (omega arith)

pub letters_more : (what : ℕ) (bs : List ℕ) → 4 ≤ length bs → letters_of (what ∷ bs) ≡ record { at = four_at (take 4 bs) 0; what = what } ∷ letters_of (drop 4 bs)
unfolding letters_of
letters_more what [] h = absurd (omega arith)
letters_more what (i ∷ []) h = absurd (omega arith)
letters_more what (i ∷ (j ∷ [])) h = absurd (omega arith)
letters_more what (i ∷ (j ∷ (k ∷ []))) h = absurd (omega arith)
letters_more what (i ∷ (j ∷ (k ∷ (l ∷ bs)))) h = refl
