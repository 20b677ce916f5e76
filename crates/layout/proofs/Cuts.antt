-- Rows and lines, of which some are taken.
use Rattle.std.proofs.Common.{◌≡◌, ℕ, zero, suc, ◌+◌, ◌-◌, ◌≤◌, List, [], ◌∷◌, length, take, drop, sym, refl, ap, ◌∙◌, arith}
use Rattle.std.proofs.lemmas.List.{drop-take, take-take}
use Rattle.meaning.specs.Lines.{Placed, Line}
use Rattle.meaning.specs.Calls.{letters_of}

-- letters_of is line by line
pub length_letters : (ls : List Line) → length (letters_of ls) ≡ length ls
unfolding letters_of
length_letters [] = refl
length_letters (l ∷ ls) = ap suc (length_letters ls)

pub take_letters : (n : ℕ) (ls : List Line) → take n (letters_of ls) ≡ letters_of (take n ls)
unfolding letters_of
take_letters zero ls = refl
take_letters (suc n) [] = refl
take_letters (suc n) (l ∷ ls) = ap (λ (rs : List (List Placed)). l.letters ∷ rs) (take_letters n ls)

pub drop_letters : (n : ℕ) (ls : List Line) → drop n (letters_of ls) ≡ letters_of (drop n ls)
unfolding letters_of
drop_letters zero ls = refl
drop_letters (suc n) [] = refl
drop_letters (suc n) (l ∷ ls) = drop_letters n ls

-- a part of a front is that part of the whole
pub take_of_part : {X : Type 0} (n r m : ℕ) (ls : List X) → r + n ≤ m → take n (drop r (take m ls)) ≡ take n (drop r ls)
take_of_part n r m ls h =
    let k : r + (m - r) ≡ m = omega arith in
    ap (λ (j : ℕ). take n (drop r (take j ls))) (sym k) ∙ ap (take n) (drop-take r (m - r) ls) ∙ take-take n (m - r) (drop r ls) (omega arith)
