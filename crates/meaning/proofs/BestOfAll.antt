-- The best lines are a way to break the words up, no way costs less, and of those that cost as much the earlier lines are the longest.
use Rattle.std.proofs.Common.{◌≡◌, ℕ, zero, suc, ◌+◌, ◌<◌, ◌≤◌, false, eqb, ltb, leb, List, [], ◌∷◌, length, take, drop, refl, ap, inl, inr, arith}
use Rattle.std.proofs.lemmas.List.{length-drop}
use Rattle.std.proofs.lemmas.Bool.{leb-true, leb-false, eq-eqb, ne_eqb, le-ltb, or_from, and_left, and_right, cases_lt}
use Rattle.meaning.specs.Lines.{Word, line_cost, BreaksUp, cost, Best, try, best}
use Rattle.meaning.specs.Promise.{earlier, BestOfAll}
use Rattle.meaning.proofs.Picks.{pick_both}
use Rattle.meaning.proofs.Best.{first_line, try_one, try_more, best_none, best_is_try}

-- no way ks to break the words up costs less than b, nor as much with an earlier line longer
abbrev NoBetter : (ℕ → ℕ) → ℕ → List Word → Best → List ℕ → Type 0
NoBetter wide w ws b ks = (b.costs ≤ cost wide w ws ks) × (cost wide w ws ks ≡ b.costs → earlier ks b.ks ≡ false)

-- b is the best of all ways
abbrev BestWay : (ℕ → ℕ) → ℕ → List Word → Best → Type 0
BestWay wide w ws b = BreaksUp ws b.ks × (cost wide w ws b.ks ≡ b.costs) × ((ks : List ℕ) → BreaksUp ws ks → NoBetter wide w ws b ks)

-- b is the best of the ways whose first line has k words or fewer
abbrev BestBelow : (ℕ → ℕ) → ℕ → List Word → ℕ → Best → Type 0
BestBelow wide w ws k b =
    BreaksUp ws b.ks × (cost wide w ws b.ks ≡ b.costs) × ((j : ℕ) (js : List ℕ) → j ≤ k → BreaksUp ws (j ∷ js) → NoBetter wide w ws b (j ∷ js))

-- lines have words, and the last line is the one that ends the words
pub breaks_up_cons :
    (ws : List Word) (k : ℕ) (ks : List ℕ) → 0 < k → k ≤ length ws → BreaksUp (drop k ws) ks → BreaksUp ws (k ∷ ks)
unfolding BreaksUp
breaks_up_cons [] k ks p l rest = absurd (omega arith)
breaks_up_cons (x ∷ xs) k ks p l rest = (p, l, rest)

pub breaks_up_parts :
    (ws : List Word) (k : ℕ) (ks : List ℕ) → BreaksUp ws (k ∷ ks) → (0 < k) × (k ≤ length ws) × BreaksUp (drop k ws) ks
unfolding BreaksUp
breaks_up_parts [] k ks b = absurd b
breaks_up_parts (x ∷ xs) k ks b = b

pub breaks_up_nil : (ws : List Word) → BreaksUp ws [] → length ws ≡ 0
unfolding BreaksUp
breaks_up_nil [] b = refl
breaks_up_nil (x ∷ xs) b = absurd b

pub cost_cons :
    (wide : ℕ → ℕ) (w : ℕ) (ws : List Word) (k : ℕ) (ks : List ℕ) → BreaksUp ws (k ∷ ks) →
    cost wide w ws (k ∷ ks) ≡ line_cost wide w (take k ws) (eqb (length ws) k) + cost wide w (drop k ws) ks
unfolding cost
cost_cons wide w ws k [] b =
    let (p, l, rest) = breaks_up_parts ws k [] b in
    let ends : length ws ≡ k = omega (arith, length-drop k ws, breaks_up_nil (drop k ws) rest) in
    omega (arith, ap (line_cost wide w (take k ws)) (eq-eqb (length ws) k ends))
cost_cons wide w ws k (j ∷ ks) b =
    let (p, l, rest) = breaks_up_parts ws k (j ∷ ks) b in
    let (q, m, more) = breaks_up_parts (drop k ws) j ks rest in
    omega (arith, ap (line_cost wide w (take k ws)) (ne_eqb (length ws) k (λ e. omega (arith, length-drop k ws))))

-- of two ways the one with the longer first line is the earlier, and with the same first line the rest decides
earlier_shorter : (j k : ℕ) (js ks : List ℕ) → j < k → earlier (j ∷ js) (k ∷ ks) ≡ false
unfolding earlier
earlier_shorter j k js ks l = or_from (ltb k j) _ (le-ltb k j (omega arith)) (and_left (eqb j k) _ (ne_eqb j k (λ e. omega arith)))

earlier_same : (k : ℕ) (js ks : List ℕ) → earlier js ks ≡ false → earlier (k ∷ js) (k ∷ ks) ≡ false
unfolding earlier
earlier_same k js ks e = or_from (ltb k k) _ (le-ltb k k (omega arith)) (and_right (eqb k k) (earlier js ks) e)

-- a first line of k words, where what follows is best
first_breaks :
    (wide : ℕ → ℕ) (w : ℕ) (ws : List Word) (rest : List Word → Best) (k : ℕ) → 0 < k → k ≤ length ws →
    BestWay wide w (drop k ws) (rest (drop k ws)) → BreaksUp ws (first_line wide w ws rest k).ks
first_breaks wide w ws rest k p l after = breaks_up_cons ws k (rest (drop k ws)).ks p l after.0

first_costs :
    (wide : ℕ → ℕ) (w : ℕ) (ws : List Word) (rest : List Word → Best) (k : ℕ) → 0 < k → k ≤ length ws →
    BestWay wide w (drop k ws) (rest (drop k ws)) → cost wide w ws (first_line wide w ws rest k).ks ≡ (first_line wide w ws rest k).costs
first_costs wide w ws rest k p l after =
    omega (arith, cost_cons wide w ws k (rest (drop k ws)).ks (first_breaks wide w ws rest k p l after), after.1)

first_no_better :
    (wide : ℕ → ℕ) (w : ℕ) (ws : List Word) (rest : List Word → Best) (k : ℕ) (js : List ℕ) →
    BestWay wide w (drop k ws) (rest (drop k ws)) → BreaksUp ws (k ∷ js) → NoBetter wide w ws (first_line wide w ws rest k) (k ∷ js)
first_no_better wide w ws rest k js after b =
    let e : cost wide w ws (k ∷ js) ≡ line_cost wide w (take k ws) (eqb (length ws) k) + cost wide w (drop k ws) js = cost_cons wide w ws k js b in
    let n : NoBetter wide w (drop k ws) (rest (drop k ws)) js = after.2 js (breaks_up_parts ws k js b).2 in
    (omega (arith, n.0), λ as_much. earlier_same k js (rest (drop k ws)).ks (n.1 (omega arith)))

-- a first line that is one word longer is the best if no shorter one costs less
first_is_best :
    (wide : ℕ → ℕ) (w : ℕ) (ws : List Word) (rest : List Word → Best) (k : ℕ) → suc k ≤ length ws →
    BestWay wide w (drop (suc k) ws) (rest (drop (suc k) ws)) →
    ((j : ℕ) (js : List ℕ) → j ≤ k → BreaksUp ws (j ∷ js) → (first_line wide w ws rest (suc k)).costs ≤ cost wide w ws (j ∷ js)) →
    BestBelow wide w ws (suc k) (first_line wide w ws rest (suc k))
first_is_best wide w ws rest k l after shorter = (
  first_breaks wide w ws rest (suc k) (omega arith) l after,
  first_costs wide w ws rest (suc k) (omega arith) l after,
  λ j js m b.
      elim (cases_lt k j) [
        | inl s ↦ let e : j ≡ suc k = omega arith in rw e (first_no_better wide w ws rest (suc k) js after (rw e at b))
        | inr s ↦ (shorter j js s b, λ _. earlier_shorter j (suc k) js _ (omega arith))
      ],
)

-- and where it costs more, what was best stays so
first_loses :
    (wide : ℕ → ℕ) (w : ℕ) (ws : List Word) (rest : List Word → Best) (k : ℕ) (b : Best) → BestWay wide w (drop (suc k) ws) (rest (drop (suc k) ws)) →
    BestBelow wide w ws k b → b.costs < (first_line wide w ws rest (suc k)).costs → BestBelow wide w ws (suc k) b
first_loses wide w ws rest k b after best_so_far dearer = (
  best_so_far.0,
  best_so_far.1,
  λ j js m breaks.
      elim (cases_lt k j) [
        | inl s ↦
            let e : j ≡ suc k = omega arith in
            let least : (first_line wide w ws rest (suc k)).costs ≤ cost wide w ws (j ∷ js) = rw e (first_no_better wide w ws rest (suc k) js after (rw e at breaks)).0 in
            (omega arith, λ as_much. absurd (omega arith))
        | inr s ↦ best_so_far.2 j js s breaks
      ],
)

try_is_best :
    (wide : ℕ → ℕ) (w : ℕ) (ws : List Word) (rest : List Word → Best) (k : ℕ) → 0 < k → k ≤ length ws →
    ((j : ℕ) → 0 < j → j ≤ k → BestWay wide w (drop j ws) (rest (drop j ws))) → BestBelow wide w ws k (try wide w ws rest k)
try_is_best wide w ws rest zero p l after = absurd (omega arith)
try_is_best wide w ws rest (suc zero) p l after =
    rw (try_one wide w ws rest)
    (first_is_best wide w ws rest 0 l (after 1 (omega arith) (omega arith)) (λ j js m b. absurd (omega (arith, (breaks_up_parts ws j js b).0))))
try_is_best wide w ws rest (suc (suc k)) p l after =
    let new : Best = first_line wide w ws rest (suc (suc k)) in
    let old : Best = try wide w ws rest (suc k) in
    let rest_best : BestWay wide w (drop (suc (suc k)) ws) (rest (drop (suc (suc k)) ws)) = after (suc (suc k)) (omega arith) (omega arith) in
    let old_best : BestBelow wide w ws (suc k) old = try_is_best wide w ws rest (suc k) (omega arith) (omega arith) (λ j q m. after j q (omega arith)) in
    rw (try_more wide w ws rest (suc k) (omega arith))
    (pick_both (leb new.costs old.costs) new old (BestBelow wide w ws (suc (suc k)))
    (λ e.
    first_is_best wide w ws rest (suc k) l rest_best
    (λ j js m b. omega (arith, leb-true new.costs old.costs e, (old_best.2 j js m b).0)))
    (λ e. first_loses wide w ws rest (suc k) old rest_best old_best (leb-false new.costs old.costs e)))

best_way_none : (wide : ℕ → ℕ) (w : ℕ) → BestWay wide w [] (record { costs = 0; ks = [] })
unfolding BreaksUp cost earlier
best_way_none wide w = (0, refl, elim [ [] ↦ λ b. (omega arith, λ _. refl) | k ∷ ks ↦ λ b. absurd b ])

-- no first line has more words than there are
best_way_all : (wide : ℕ → ℕ) (w : ℕ) (x : Word) (xs : List Word) (b : Best) → BestBelow wide w (x ∷ xs) (length (x ∷ xs)) b → BestWay wide w (x ∷ xs) b
unfolding BreaksUp
best_way_all wide w x xs b below = (
  below.0,
  below.1,
  elim [ [] ↦ λ breaks. absurd breaks | k ∷ ks ↦ λ breaks. below.2 k ks (breaks_up_parts (x ∷ xs) k ks breaks).1 breaks ],
)

best_way_in : (n : ℕ) (wide : ℕ → ℕ) (w : ℕ) (ws : List Word) → length ws < n → BestWay wide w ws (best wide w ws)
best_way_in zero wide w ws p = absurd (omega arith)
best_way_in (suc n) wide w [] p = rw (best_none wide w) (best_way_none wide w)
best_way_in (suc n) wide w (x ∷ xs) p =
    rw (best_is_try wide w (x ∷ xs))
    (best_way_all wide w x xs (try wide w (x ∷ xs) (best wide w) (length (x ∷ xs)))
    (try_is_best wide w (x ∷ xs) (best wide w) (length (x ∷ xs)) (omega arith) (omega arith)
    (λ j q m. best_way_in n wide w (drop j (x ∷ xs)) (omega (arith, length-drop j (x ∷ xs))))))

best_is_best : (wide : ℕ → ℕ) (w : ℕ) (ws : List Word) → BestWay wide w ws (best wide w ws)
best_is_best wide w ws = best_way_in (suc (length ws)) wide w ws (omega arith)

pub best_breaks_up : (wide : ℕ → ℕ) (w : ℕ) (ws : List Word) → BreaksUp ws (best wide w ws).ks
best_breaks_up wide w ws = (best_is_best wide w ws).0

pub cost_best : (wide : ℕ → ℕ) (w : ℕ) (ws : List Word) → cost wide w ws (best wide w ws).ks ≡ (best wide w ws).costs
cost_best wide w ws = (best_is_best wide w ws).1

pub best_of_all : BestOfAll
unfolding BestOfAll
best_of_all wide w ws = best_is_best wide w ws
