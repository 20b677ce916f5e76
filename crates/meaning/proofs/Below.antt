-- Rows of numbers below a bound.
use Rattle.std.proofs.Common.{◌≡◌, ℕ, zero, suc, ◌<◌, Bool, true, false, ◌&&◌, ltb, List, [], ◌∷◌, ◌++◌, get_or, replicate, sym, refl, ◌∙◌}
use Rattle.std.proofs.lemmas.Bool.{lt-ltb, ltb-true, and_from, and_parts}
use Rattle.meaning.specs.Promise.{all_below}

pub all_below_more : (b x : ℕ) (xs : List ℕ) → x < b → all_below b xs ≡ true → all_below b (x ∷ xs) ≡ true
unfolding all_below
all_below_more b x xs h t = and_from (ltb x b) (all_below b xs) (lt-ltb x b h) t

pub all_below_none : (b : ℕ) → all_below b [] ≡ true
unfolding all_below
all_below_none b = refl

pub all_below_append : (b : ℕ) (xs ys : List ℕ) → all_below b (xs ++ ys) ≡ (all_below b xs && all_below b ys)
unfolding all_below
all_below_append b [] ys = refl
all_below_append b (x ∷ xs) ys = step (ltb x b) (all_below b (xs ++ ys)) (all_below b xs) (all_below b ys) (all_below_append b xs ys)
  where
    step : (t u v w : Bool) → u ≡ (v && w) → (t && u) ≡ ((t && v) && w)
    step true u v w e = e
    step false u v w e = refl

pub all_below_replicate : (b n x : ℕ) → x < b → all_below b (replicate n x) ≡ true
all_below_replicate b zero x h = all_below_none b
all_below_replicate b (suc n) x h = all_below_more b x (replicate n x) h (all_below_replicate b n x h)

pub all_below_parts : (b : ℕ) (xs ys : List ℕ) → all_below b (xs ++ ys) ≡ true → (all_below b xs ≡ true) × (all_below b ys ≡ true)
all_below_parts b xs ys h = and_parts (all_below b xs) (all_below b ys) (sym (all_below_append b xs ys) ∙ h)

pub all_below_both : (b : ℕ) (xs ys : List ℕ) → all_below b xs ≡ true → all_below b ys ≡ true → all_below b (xs ++ ys) ≡ true
all_below_both b xs ys h k = all_below_append b xs ys ∙ and_from (all_below b xs) (all_below b ys) h k

pub getD_below : (b : ℕ) (xs : List ℕ) (i d : ℕ) → d < b → all_below b xs ≡ true → get_or xs i d < b
unfolding all_below
getD_below b [] i d h t = h
getD_below b (x ∷ xs) zero d h t = ltb-true x b (and_parts (ltb x b) (all_below b xs) t).0
getD_below b (x ∷ xs) (suc i) d h t = getD_below b xs i d h (and_parts (ltb x b) (all_below b xs) t).1
