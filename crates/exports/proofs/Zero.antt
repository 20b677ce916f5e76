-- Opening gives 0 only where the book is open.
use Rattle.std.proofs.Common.{◌≡◌, ℕ, Bool, true, false, eqb, leb, List, length, pos, Ok, Err, Result, refl, subst, arith}
use Rattle.std.proofs.lemmas.Int.{ints}
use Rattle.std.proofs.lemmas.Bool.{eqb-true}
use Rattle.meaning.specs.Text.{pick}
use Rattle.wire.specs.declared.refusal.Refusal.{Refusal}
use Rattle.wire.specs.declared.refusal.Refusal.TheVariants.{ShortTokens, ShortRest, BadOpening}
use Rattle.store.specs.Opened.{limits_of, in_range, tokens_asked, rest_asked, Opens}
use Rattle.store.specs.declared.opening.Limits.{Limits}
use Rattle.store.specs.declared.opening.Looks.{Looks}
use Rattle.exports.specs.Numbers.{refusing, opening_number, OpensAs}

Done : Bool → Result (Unit {0}) Refusal → Type 0
Done b o = (b ≡ true) × (o ≡ Ok tt)

below : (p : ℕ) (A : Type 0) → pos 0 ≡ refusing 3 p → A
below p A e = let z : ⊥ = omega (arith, ints) in absurd z

zero_done :
    (b x y z : Bool) → let o : Result (Unit {0}) Refusal = pick x (pick y (pick z (Ok tt) (Err ShortRest)) (Err ShortTokens)) (Err BadOpening) in
    pos 0 ≡ pick b (opening_number o) (refusing 3 2) → Done b o
unfolding Done
zero_done false x y z e = below 2 _ e
zero_done true false y z e = below 2 _ e
zero_done true true false z e = below 0 _ e
zero_done true true true false e = below 1 _ e
zero_done true true true true e = (refl, refl)

pub opened_by_zero : (l : Limits) (g : Looks) (ts rs ts' rs' : List ℕ) → OpensAs l g ts rs ts' rs' (pos 0) → Opens l g ts rs ts' rs' (Ok tt)
unfolding Done
opened_by_zero l g ts rs ts' rs' o =
    let d = zero_done (eqb (length g.widths) 95) (in_range l g) (leb (tokens_asked (limits_of l)) (length ts)) (leb (rest_asked (limits_of l)) (length rs)) o.value in
    subst (λ (r : Result (Unit {0}) Refusal). Opens l g ts rs ts' rs' r) d.1 (o.opens (eqb-true (length g.widths) 95 d.0))
