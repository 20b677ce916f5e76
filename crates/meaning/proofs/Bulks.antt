-- What a paragraph is when its commands are gone, and how many letters and gaps a note has: for one row of atoms behind another.
use Rattle.std.proofs.Common.{◌≡◌, ℕ, ◌+◌, List, [], ◌∷◌, ◌++◌, length, sym, refl, ap, ◌∙◌, zero-add, arith}
use Rattle.std.proofs.lemmas.List.{length-append}
use Rattle.meaning.specs.Text.{Atom, ch, gap, tag, foot, plainly}
use Rattle.meaning.specs.Calls.{bulk}

pub bulk_append : (xs ys : List Atom) → bulk (xs ++ ys) ≡ bulk xs + bulk ys
unfolding bulk
bulk_append [] ys = sym (zero-add (bulk ys))
bulk_append (ch c ∷ xs) ys = omega (arith, bulk_append xs ys)
bulk_append (gap ∷ xs) ys = omega (arith, bulk_append xs ys)
bulk_append (tag l ∷ xs) ys = omega (arith, bulk_append xs ys)
bulk_append (foot f ∷ xs) ys = omega (arith, bulk_append xs ys)

pub plainly_append : (xs ys : List Atom) → plainly (xs ++ ys) ≡ plainly xs ++ plainly ys
unfolding plainly
plainly_append [] ys = refl
plainly_append (ch c ∷ xs) ys = ap (λ (cs : List ℕ). c ∷ cs) (plainly_append xs ys)
plainly_append (gap ∷ xs) ys = ap (λ (cs : List ℕ). 32 ∷ cs) (plainly_append xs ys)
plainly_append (tag l ∷ xs) ys = plainly_append xs ys
plainly_append (foot f ∷ xs) ys = plainly_append xs ys

pub length_plainly_append : (xs ys : List Atom) → length (plainly (xs ++ ys)) ≡ length (plainly xs) + length (plainly ys)
length_plainly_append xs ys = ap length (plainly_append xs ys) ∙ length-append (plainly xs) (plainly ys)
