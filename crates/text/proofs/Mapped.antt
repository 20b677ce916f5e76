-- What an array's `map` gives, where calls leave the closure as it was.
use Rattle.std.proofs.Common.{◌≡◌, ℕ, zero, suc, ◌+◌, ◌<◌, ◌≤◌, ◌⊎◌, List, map, get_or, sym, ap, ◌∙◌, subst, inl, inr, arith}
use Rattle.std.specs.Array.{MapsFrom, IsMapOf}
use Rattle.std.specs.Fn.{Mut, Called}
use Rattle.std.specs.List.{range_with_len}
use Rattle.std.proofs.lemmas.Bool.{cases_eq}
use Rattle.std.proofs.lemmas.List.FromFn.{fill_by_all}

module _ {F A B : Type 0} {g : Mut F (A × Unit {0}) B} {f : F} (xs : List A) (ys : List B) (key : A → B) (calls : (x : A) (y : B) (q : F) → Called g f (x, tt) y q → (q ≡ f) × (y ≡ key x)) where
  mapped_at : (n i : ℕ) → MapsFrom g f xs ys i n → (k : ℕ) (d : A) (e : B) → i ≤ k → k < i + n → get_or ys k e ≡ key (get_or xs k d)
  mapped_at zero i m k d e low high = absurd (omega arith)
  mapped_at (suc n) i (q, x, y, at_x, at_y, call, rest) k d e low high =
      go (cases_eq k i) (mapped_at n (i + 1) (subst (λ p. MapsFrom g p xs ys (i + 1) n) (calls x y q call).0 rest) k d e)
    where
      go : (k ≡ i) ⊎ (k ≡ i → ⊥) → (i + 1 ≤ k → k < i + 1 + n → get_or ys k e ≡ key (get_or xs k d)) → get_or ys k e ≡ key (get_or xs k d)
      go (inl is) more = rw is (at_y.1 e ∙ ((calls x y q call).1 ∙ ap key (sym (at_x.1 d))))
      go (inr later) more = more (omega arith) (omega arith)

  pub mapped : (n : ℕ) (d : A) (e : B) → IsMapOf g f xs ys n → ys ≡ map (λ k. key (get_or xs k d)) (range_with_len 0 n)
  mapped n d e m = fill_by_all (λ k. key (get_or xs k d)) ys n e m.long (λ k h. mapped_at n 0 m.each k d e (omega arith) (omega arith))
