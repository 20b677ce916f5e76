-- Token bytes cut into definitions.
use Rattle.std.proofs.Common.{◌≡◌, ℕ, ◌<◌, ◌≤◌, List, [], ◌∷◌, length, get_or, take, drop, sym, refl, ap, ap₂, ◌∙◌, arith}
use Rattle.std.proofs.lemmas.Bool.{le-leb, lt-leb, lt-ltb, le-ltb, and_from, and_left, and_right}
use Rattle.meaning.proofs.Picks.{pick_true, pick_false}
use Rattle.store.specs.Defined.{defined_in}

pub defined_none : (ts : List ℕ) (es : List (List ℕ)) → length es ≡ 0 → defined_in ts es ≡ []
unfolding defined_in
defined_none ts [] h = refl
defined_none ts (e ∷ es) h = absurd (omega arith)

pub defined_short : (ts e : List ℕ) (all es : List (List ℕ)) → all ≡ e ∷ es → length ts < get_or e 0 0 → defined_in ts all ≡ []
unfolding defined_in
defined_short ts e all es s h = ap (defined_in ts) s ∙ pick_false _ _ [] (and_left _ _ (lt-leb (get_or e 0 0) (length ts) h))

-- with a number that is no byte
pub defined_unnumbered : (ts e : List ℕ) (all es : List (List ℕ)) → all ≡ e ∷ es → 256 ≤ get_or e 2 0 → defined_in ts all ≡ []
unfolding defined_in
defined_unnumbered ts e all es s h = ap (defined_in ts) s ∙ pick_false _ _ [] (and_right _ _ (le-ltb (get_or e 2 0) 256 h))

pub defined_cut :
    (ts e : List ℕ) (all es : List (List ℕ)) (n : ℕ) (p behind : List ℕ) → all ≡ e ∷ es → get_or e 0 0 ≤ length ts → (get_or e 2 0 < 256) × (n ≡ get_or e 2 0) →
    p ≡ take (get_or e 0 0) ts → behind ≡ drop (get_or e 0 0) ts → defined_in ts all ≡ (n, p) ∷ defined_in behind es
unfolding defined_in
defined_cut ts e all es n p behind s h number f g =
    ap (defined_in ts) s ∙ pick_true _ _ [] (and_from _ _ (le-leb (get_or e 0 0) (length ts) h) (lt-ltb (get_or e 2 0) 256 number.0))
    ∙ (ap₂ (λ q r. (get_or e 2 0, q) ∷ defined_in r es) (sym f) (sym g) ∙ ap (λ m. (m, p) ∷ defined_in behind es) (sym number.1))
