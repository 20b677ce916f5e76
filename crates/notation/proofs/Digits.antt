-- The digits that a text begins with.
use Rattle.std.proofs.Common.{◌≡◌, ℕ, Bool, true, false, cond, List, [], ◌∷◌, refl}
use Rattle.std.specs.Char.{is_ascii_digit}
use Rattle.std.specs.List.{take_while}
use Rattle.std.specs.Str.{all_ascii_digits}
use Rattle.std.proofs.lemmas.List.Sums.{take_while-cons}

-- the digits that come first are digits
pub digits_first : (bs : List ℕ) → all_ascii_digits (take_while is_ascii_digit bs) ≡ true
digits_first [] = refl
digits_first (b ∷ bs) = rw (take_while-cons is_ascii_digit b bs) (go (is_ascii_digit b) refl (digits_first bs))
  where
    go : (t : Bool) → is_ascii_digit b ≡ t → all_ascii_digits (take_while is_ascii_digit bs) ≡ true → all_ascii_digits (cond t (b ∷ take_while is_ascii_digit bs) []) ≡ true
    go true e more = rw e more
    go false e more = refl
