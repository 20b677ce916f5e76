-- What was read where reading went on, and what was said in front of what is said.
use Rattle.std.proofs.Common.{◌≡◌, ℕ, List, [], ◌++◌, Ok, Err, Result, sym, refl, ap, append_assoc}
use Rattle.notation.specs.Steps.{then, in_front}

pub then_ok : {A B E : Type 0} (r : Result A E) (f : A → Result B E) (y : B) → then r f ≡ Ok y → (x : A) × (r ≡ Ok x) × (f x ≡ Ok y)
then_ok (Ok x) f y e = (x, refl, e)
then_ok (Err d) f y e = cc

module _ {E : Type 0} where
  pub in_front_nothing : (r : Result (List ℕ) E) → in_front [] r ≡ r
  in_front_nothing (Ok ws) = refl
  in_front_nothing (Err e) = refl

  pub in_front_both : (xs ys : List ℕ) (r : Result (List ℕ) E) → in_front xs (in_front ys r) ≡ in_front (xs ++ ys) r
  in_front_both xs ys (Ok ws) = ap (λ zs. Ok zs) (sym (append_assoc xs ys ws))
  in_front_both xs ys (Err e) = refl
