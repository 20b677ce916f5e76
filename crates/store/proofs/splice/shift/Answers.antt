use Rattle.std.proofs.Common.{◌≡◌, ℕ, ◌+◌, ◌-◌, ◌∙◌, ap, sym, take, drop, ◌++◌, List, arith}
use Rattle.std.proofs.lemmas.List.{append_assoc, take-append-drop, drop-drop}
use Rattle.std.specs.List.{copy_within}
use Rattle.store.proofs.splice.shift.Goals as goal

-- what is copied to where it stands
same_place : {X : Type 0} (xs : List X) (i n : ℕ) → (take i xs ++ take n (drop i xs)) ++ drop (i + n) xs ≡ xs
same_place xs i n =
    append_assoc (take i xs) (take n (drop i xs)) (drop (i + n) xs)
    ∙ ap (λ ys. take i xs ++ (take n (drop i xs) ++ ys)) (sym (drop-drop n i xs))
    ∙ ap (λ ys. take i xs ++ ys) (take-append-drop n (drop i xs))
    ∙ take-append-drop i xs

pub returns-else-to-from : goal.returns-else-to-from
returns-else-to-from g c =
    let at : c.args.from.start ≡ c.args.to = omega (arith, c.if-to-from.false) in
    sym (ap (λ i. copy_within c.args.xs.now c.args.from.start c.args.from.end i) (sym at) ∙ same_place c.args.xs.now c.args.from.start (c.args.from.end - c.args.from.start))
