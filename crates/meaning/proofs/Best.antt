-- The best lines of a paragraph, step by step from the last word to the first; only the words' widths matter, and where they fit no line that sticks out is tried.
use Rattle.std.proofs.Common.{◌≡◌, ℕ, zero, suc, ◌+◌, ◌-◌, ◌*◌, ◌<◌, ◌≤◌, Bool, true, eqb, leb, List, [], ◌∷◌, length, take, drop, sym, refl, ap, ◌∙◌, ap₂, inl, inr, add-zero, suc-mul, mul-le-mul, mul-le-mul_left, arith}
use Rattle.std.proofs.lemmas.List.{length-drop, take_all, drop_all, drop-drop}
use Rattle.std.proofs.lemmas.Bool.{le-leb, lt-leb, leb-true, leb-false, eq-eqb, and_parts, cases_lt}
use Rattle.meaning.specs.Text.{pick}
use Rattle.meaning.specs.Lines.{Word, long, natural, line_cost, Best, try, best_in, best}
use Rattle.meaning.specs.Promise.{all_fit}
use Rattle.meaning.proofs.Picks.{pick_true, pick_false, pick_both}
use Rattle.meaning.proofs.Widths.{widths, length_widths, take_widths, drop_widths, row, row_cost, natural_part, natural_take_le, line_cost_is_row, line_cost_like, row_cost_sticks_out, row_cost_le}

-- a line of k words that costs c, before the lines of r
abbrev pub with_line : ℕ → ℕ → Best → Best
with_line c k r = record { costs = c + r.costs; ks = k ∷ r.ks }

-- a first line of k words, then what is best for the rest
abbrev pub first_line : (ℕ → ℕ) → ℕ → List Word → (List Word → Best) → ℕ → Best
first_line wide w ws rest k = with_line (line_cost wide w (take k ws) (eqb (length ws) k)) k (rest (drop k ws))

-- the first of two where it costs less or as much, else the second
abbrev pub cheaper : Best → Best → Best
cheaper a b = pick (leb a.costs b.costs) a b

pub try_zero : (wide : ℕ → ℕ) (w : ℕ) (ws : List Word) (rest : List Word → Best) → try wide w ws rest 0 ≡ record { costs = 0; ks = [] }
unfolding try
try_zero wide w ws rest = refl

pub try_one : (wide : ℕ → ℕ) (w : ℕ) (ws : List Word) (rest : List Word → Best) → try wide w ws rest 1 ≡ first_line wide w ws rest 1
unfolding try
try_one wide w ws rest = refl

pub try_more :
    (wide : ℕ → ℕ) (w : ℕ) (ws : List Word) (rest : List Word → Best) (k : ℕ) → 0 < k →
    try wide w ws rest (suc k) ≡ cheaper (first_line wide w ws rest (suc k)) (try wide w ws rest k)
unfolding try
try_more wide w ws rest zero p = absurd (omega arith)
try_more wide w ws rest (suc k) p = refl

-- one more word on the first line: it is taken where that costs less or as much, so that of equals the longer line wins
pub try_takes :
    (wide : ℕ → ℕ) (w : ℕ) (ws : List Word) (rest : List Word → Best) (k : ℕ) → 0 < k →
    (first_line wide w ws rest (suc k)).costs ≤ (try wide w ws rest k).costs → try wide w ws rest (suc k) ≡ first_line wide w ws rest (suc k)
try_takes wide w ws rest k p l = try_more wide w ws rest k p ∙ pick_true _ _ _ (le-leb (first_line wide w ws rest (suc k)).costs (try wide w ws rest k).costs l)

pub try_keeps :
    (wide : ℕ → ℕ) (w : ℕ) (ws : List Word) (rest : List Word → Best) (k : ℕ) → 0 < k →
    (try wide w ws rest k).costs < (first_line wide w ws rest (suc k)).costs → try wide w ws rest (suc k) ≡ try wide w ws rest k
try_keeps wide w ws rest k p l = try_more wide w ws rest k p ∙ pick_false _ _ _ (lt-leb (first_line wide w ws rest (suc k)).costs (try wide w ws rest k).costs l)

-- what is tried depends on what each first line gives, and on nothing else
pub try_like :
    (wide wide' : ℕ → ℕ) (w w' : ℕ) (ws vs : List Word) (rest rest' : List Word → Best) (k : ℕ) →
    ((j : ℕ) → 0 < j → j ≤ k → first_line wide w ws rest j ≡ first_line wide' w' vs rest' j) → try wide w ws rest k ≡ try wide' w' vs rest' k
try_like wide wide' w w' ws vs rest rest' zero same = try_zero wide w ws rest ∙ sym (try_zero wide' w' vs rest')
try_like wide wide' w w' ws vs rest rest' (suc zero) same =
    try_one wide w ws rest ∙ same 1 (omega arith) (omega arith) ∙ sym (try_one wide' w' vs rest')
try_like wide wide' w w' ws vs rest rest' (suc (suc k)) same =
    try_more wide w ws rest (suc k) (omega arith)
    ∙ ap₂ cheaper (same (suc (suc k)) (omega arith) (omega arith)) (try_like wide wide' w w' ws vs rest rest' (suc k) (λ j p l. same j p (omega arith)))
    ∙ sym (try_more wide' w' vs rest' (suc k) (omega arith))

-- two rests that agree where they are asked
pub try_same :
    (wide : ℕ → ℕ) (w : ℕ) (ws : List Word) (rest rest' : List Word → Best) (k : ℕ) →
    ((j : ℕ) → 0 < j → j ≤ k → rest (drop j ws) ≡ rest' (drop j ws)) → try wide w ws rest k ≡ try wide w ws rest' k
try_same wide w ws rest rest' k same =
    try_like wide wide w w ws ws rest rest' k (λ j p l. ap (with_line (line_cost wide w (take j ws) (eqb (length ws) j)) j) (same j p l))

-- with more steps allowed than there are words, how many does not matter
pub best_in_enough :
    (m n : ℕ) (wide : ℕ → ℕ) (w : ℕ) (ws : List Word) → length ws < m → length ws < n → best_in m wide w ws ≡ best_in n wide w ws
unfolding best_in
best_in_enough zero n wide w ws p q = absurd (omega arith)
best_in_enough (suc m) zero wide w ws p q = absurd (omega arith)
best_in_enough (suc m) (suc n) wide w [] p q = refl
best_in_enough (suc m) (suc n) wide w (x ∷ xs) p q =
    try_same wide w (x ∷ xs) (best_in m wide w) (best_in n wide w) (length (x ∷ xs))
    (λ j h l. best_in_enough m n wide w (drop j (x ∷ xs)) (omega (arith, length-drop j (x ∷ xs))) (omega (arith, length-drop j (x ∷ xs))))

pub best_in_is_best : (n : ℕ) (wide : ℕ → ℕ) (w : ℕ) (ws : List Word) → length ws < n → best_in n wide w ws ≡ best wide w ws
best_in_is_best n wide w ws p = best_in_enough n (suc (length ws)) wide w ws p (omega arith)

best_in_suc : (n : ℕ) (wide : ℕ → ℕ) (w : ℕ) (ws : List Word) → best_in (suc n) wide w ws ≡ try wide w ws (best_in n wide w) (length ws)
unfolding best_in
best_in_suc n wide w [] = sym (try_zero wide w [] (best_in n wide w))
best_in_suc n wide w (x ∷ xs) = refl

pub best_none : (wide : ℕ → ℕ) (w : ℕ) → best wide w [] ≡ record { costs = 0; ks = [] }
unfolding best_in
best_none wide w = refl

-- the step from the last word to the first
pub best_is_try : (wide : ℕ → ℕ) (w : ℕ) (ws : List Word) → best wide w ws ≡ try wide w ws (best wide w) (length ws)
best_is_try wide w ws =
    best_in_suc (length ws) wide w ws
    ∙ try_same wide w ws (best_in (length ws) wide w) (best wide w) (length ws)
    (λ j p l. best_in_is_best (length ws) wide w (drop j ws) (omega (arith, length-drop j ws)))

-- only the widths matter
first_line_like :
    (wide wide' : ℕ → ℕ) (w : ℕ) (ws vs : List Word) (rest rest' : List Word → Best) (k : ℕ) → wide 32 ≡ wide' 32 → widths wide ws ≡ widths wide' vs →
    rest (drop k ws) ≡ rest' (drop k vs) → first_line wide w ws rest k ≡ first_line wide' w vs rest' k
first_line_like wide wide' w ws vs rest rest' k space same after =
    let heads : widths wide (take k ws) ≡ widths wide' (take k vs) = cc (take_widths wide k ws, take_widths wide' k vs) in
    let as_many : length ws ≡ length vs = cc (length_widths wide ws, length_widths wide' vs) in
    ap₂ (λ (c : ℕ) (r : Best). with_line c k r)
    (line_cost_like wide wide' w (take k ws) (take k vs) (eqb (length ws) k) space heads ∙ ap (λ (n : ℕ). line_cost wide' w (take k vs) (eqb n k)) as_many) after

best_in_like :
    (n : ℕ) (wide wide' : ℕ → ℕ) (w : ℕ) (ws vs : List Word) → wide 32 ≡ wide' 32 → widths wide ws ≡ widths wide' vs →
    best_in n wide w ws ≡ best_in n wide' w vs
unfolding best_in
best_in_like zero wide wide' w ws vs space same = refl
best_in_like (suc n) wide wide' w ws vs space same =
    best_in_suc n wide w ws
    ∙ try_like wide wide' w w ws vs (best_in n wide w) (best_in n wide' w) (length ws)
    (λ j p l.
    first_line_like wide wide' w ws vs (best_in n wide w) (best_in n wide' w) j space same
    (best_in_like n wide wide' w (drop j ws) (drop j vs) space (cc (drop_widths wide j ws, drop_widths wide' j vs))))
    ∙ ap (try wide' w vs (best_in n wide' w)) (cc (length_widths wide ws, length_widths wide' vs)) ∙ sym (best_in_suc n wide' w vs)

pub best_like :
    (wide wide' : ℕ → ℕ) (w : ℕ) (ws vs : List Word) → wide 32 ≡ wide' 32 → widths wide ws ≡ widths wide' vs → best wide w ws ≡ best wide' w vs
best_like wide wide' w ws vs space same =
    best_in_like (suc (length ws)) wide wide' w ws vs space same
    ∙ ap (λ (n : ℕ). best_in (suc n) wide' w vs) (cc (length_widths wide ws, length_widths wide' vs))

-- the same steps for the words from place i on, in terms of widths
pub best_drop : (wide : ℕ → ℕ) (w : ℕ) (ws : List Word) (i : ℕ) → best wide w (drop i ws) ≡ try wide w (drop i ws) (best wide w) (length ws - i)
best_drop wide w ws i = best_is_try wide w (drop i ws) ∙ ap (try wide w (drop i ws) (best wide w)) (length-drop i ws)

pub first_line_drop :
    (wide : ℕ → ℕ) (w : ℕ) (ws : List Word) (rest : List Word → Best) (i k : ℕ) →
    first_line wide w (drop i ws) rest k
    ≡ with_line (row_cost w (row (wide 32) (take k (drop i (widths wide ws)))) (eqb (length ws - i) k)) k (rest (drop (i + k) ws))
first_line_drop wide w ws rest i k =
    ap₂ (λ (c : ℕ) (r : Best). with_line c k r)
    (line_cost_is_row wide w (take k (drop i ws)) (eqb (length (drop i ws)) k)
    ∙ ap₂ (λ (n m : ℕ). row_cost w n (eqb m k)) (natural_part wide i k ws) (length-drop i ws))
    (ap rest (drop-drop k i ws))

-- the cheaper of two is as cheap as either
cheaper_le : (a b : Best) → ((cheaper a b).costs ≤ a.costs) × ((cheaper a b).costs ≤ b.costs)
cheaper_le a b =
    pick_both (leb a.costs b.costs) a b (λ c. (c.costs ≤ a.costs) × (c.costs ≤ b.costs))
    (λ e. omega (arith, leb-true a.costs b.costs e)) (λ e. omega (arith, leb-false a.costs b.costs e))

try_le_last :
    (wide : ℕ → ℕ) (w : ℕ) (ws : List Word) (rest : List Word → Best) (k : ℕ) →
    (try wide w ws rest (suc k)).costs ≤ (first_line wide w ws rest (suc k)).costs
try_le_last wide w ws rest zero = rw (try_one wide w ws rest) (omega arith)
try_le_last wide w ws rest (suc k) =
    rw (try_more wide w ws rest (suc k) (omega arith)) (cheaper_le (first_line wide w ws rest (suc (suc k))) (try wide w ws rest (suc k))).0

try_falls :
    (wide : ℕ → ℕ) (w : ℕ) (ws : List Word) (rest : List Word → Best) (k : ℕ) → 0 < k → (try wide w ws rest (suc k)).costs ≤ (try wide w ws rest k).costs
try_falls wide w ws rest k p = rw (try_more wide w ws rest k p) (cheaper_le (first_line wide w ws rest (suc k)) (try wide w ws rest k)).1

-- no first line that was tried is cheaper
pub try_le_first :
    (wide : ℕ → ℕ) (w : ℕ) (ws : List Word) (rest : List Word → Best) (j k : ℕ) → 0 < j → j ≤ k →
    (try wide w ws rest k).costs ≤ (first_line wide w ws rest j).costs
try_le_first wide w ws rest j zero p l = absurd (omega arith)
try_le_first wide w ws rest j (suc k) p l =
    elim (cases_lt k j) [
      | inl s ↦ let e : j ≡ suc k = omega arith in rw e (try_le_last wide w ws rest k)
      | inr s ↦ omega (arith, try_falls wide w ws rest k (omega arith), try_le_first wide w ws rest j k p s)
    ]

pub best_le_first : (wide : ℕ → ℕ) (w : ℕ) (ws : List Word) (k : ℕ) → 0 < k → k ≤ length ws → (best wide w ws).costs ≤ (first_line wide w ws (best wide w) k).costs
best_le_first wide w ws k p l = rw (best_is_try wide w ws) (try_le_first wide w ws (best wide w) k (length ws) p l)

-- one line for all words bounds what is best
first_line_all : (wide : ℕ → ℕ) (w : ℕ) (ws : List Word) → (first_line wide w ws (best wide w) (length ws)).costs ≡ line_cost wide w ws true
first_line_all wide w ws =
    ap₂ (λ (c : ℕ) (b : Best). c + b.costs) (ap₂ (line_cost wide w) (take_all (length ws) ws (omega arith)) (eq-eqb (length ws) (length ws) refl))
    (ap (best wide w) (drop_all (length ws) ws (omega arith)) ∙ best_none wide w)
    ∙ add-zero (line_cost wide w ws true)

pub best_costs_le : (wide : ℕ → ℕ) (w : ℕ) (ws : List Word) → (best wide w ws).costs ≤ line_cost wide w ws true
best_costs_le wide w [] = rw (best_none wide w) (omega arith)
best_costs_le wide w (x ∷ xs) = omega (arith, best_le_first wide w (x ∷ xs) (length (x ∷ xs)) (omega arith) (omega arith), first_line_all wide w (x ∷ xs))

first_line_sticks_out :
    (wide : ℕ → ℕ) (w : ℕ) (ws : List Word) (rest : List Word → Best) (k : ℕ) → w < natural wide (take k ws) →
    10000000000 + (natural wide (take k ws) - w) ≤ (first_line wide w ws rest k).costs
first_line_sticks_out wide w ws rest k out =
    let is_last : Bool = eqb (length ws) k in
    omega (arith, line_cost_is_row wide w (take k ws) is_last, row_cost_sticks_out w (natural wide (take k ws)) is_last out)

-- once a line sticks out and the best so far costs less than it, longer lines need not be tried
pub try_stops :
    (wide : ℕ → ℕ) (w : ℕ) (ws : List Word) (rest : List Word → Best) (j k : ℕ) → 0 < j → j ≤ k → w < natural wide (take (suc j) ws) →
    (try wide w ws rest j).costs < 10000000000 + (natural wide (take (suc j) ws) - w) → try wide w ws rest k ≡ try wide w ws rest j
try_stops wide w ws rest j zero p l out cheap = absurd (omega arith)
try_stops wide w ws rest j (suc k) p l out cheap =
    elim (cases_lt k j) [
      | inl s ↦ let e : suc k ≡ j = omega arith in ap (try wide w ws rest) e
      | inr s ↦
          let same : try wide w ws rest k ≡ try wide w ws rest j = try_stops wide w ws rest j k p s out cheap in
          let wider : natural wide (take (suc j) ws) ≤ natural wide (take (suc k) ws) = natural_take_le wide ws (suc j) (suc k) (omega arith) in
          try_keeps wide w ws rest k (omega arith) (omega (arith, ap (λ (b : Best). b.costs) same, first_line_sticks_out wide w ws rest (suc k) (omega arith))) ∙ same
    ]

pub all_fit_drop : (wide : ℕ → ℕ) (w : ℕ) (ws : List Word) (i : ℕ) → all_fit wide w ws ≡ true → all_fit wide w (drop i ws) ≡ true
unfolding all_fit
all_fit_drop wide w ws zero fit = fit
all_fit_drop wide w [] (suc i) fit = fit
all_fit_drop wide w (x ∷ xs) (suc i) fit = all_fit_drop wide w xs i (and_parts (leb (long wide x.letters) w) (all_fit wide w xs) fit).1

-- where every word fits, so does one word a line
natural_one_fits : (wide : ℕ → ℕ) (w : ℕ) (ws : List Word) → all_fit wide w ws ≡ true → natural wide (take 1 ws) ≤ w
unfolding all_fit natural
natural_one_fits wide w [] fit = omega arith
natural_one_fits wide w (x ∷ xs) fit = leb-true (long wide x.letters) w (and_parts (leb (long wide x.letters) w) (all_fit wide w xs) fit).0

one_word_le :
    (wide : ℕ → ℕ) (w : ℕ) (x : Word) (xs : List Word) → all_fit wide w (x ∷ xs) ≡ true → (best wide w xs).costs ≤ length xs * (w * w) →
    (first_line wide w (x ∷ xs) (best wide w) 1).costs ≤ length (x ∷ xs) * (w * w)
one_word_le wide w x xs fit rest =
    let is_last : Bool = eqb (length (x ∷ xs)) 1 in
    omega
    (arith, line_cost_is_row wide w (x ∷ []) is_last, row_cost_le w (natural wide (x ∷ [])) is_last (natural_one_fits wide w (x ∷ xs) fit), suc-mul (length xs) (w * w))

pub best_costs_le_squares : (wide : ℕ → ℕ) (w : ℕ) (ws : List Word) → all_fit wide w ws ≡ true → (best wide w ws).costs ≤ length ws * (w * w)
best_costs_le_squares wide w [] fit = rw (best_none wide w) (omega arith)
best_costs_le_squares wide w (x ∷ xs) fit =
    omega
    (arith, best_le_first wide w (x ∷ xs) 1 (omega arith) (omega arith), one_word_le wide w x xs fit (best_costs_le_squares wide w xs (all_fit_drop wide w (x ∷ xs) 1 fit)))

pub best_costs_le_millions :
    (wide : ℕ → ℕ) (w : ℕ) (ws : List Word) → w ≤ 1000 → all_fit wide w ws ≡ true → (best wide w ws).costs ≤ length ws * 1000000
best_costs_le_millions wide w ws narrow fit =
    omega (arith, best_costs_le_squares wide w ws fit, mul-le-mul_left (length ws) (mul-le-mul narrow narrow))

pub squares_lt : (n w : ℕ) → n ≤ 4096 → w ≤ 1000 → n * (w * w) < 10000000000
squares_lt n w few narrow = omega (arith, mul-le-mul few (mul-le-mul narrow narrow))

-- so where every word fits, no line that sticks out need be tried
pub best_stops :
    (wide : ℕ → ℕ) (w : ℕ) (ws : List Word) (j k : ℕ) → all_fit wide w ws ≡ true → length ws * (w * w) < 10000000000 →
    w < natural wide (take (suc j) ws) → j ≤ k → try wide w ws (best wide w) k ≡ try wide w ws (best wide w) j
best_stops wide w ws zero k fit few out l = absurd (omega (arith, natural_one_fits wide w ws fit))
best_stops wide w [] (suc j) k fit few out l = absurd (omega (arith, natural_one_fits wide w [] fit))
best_stops wide w (x ∷ xs) (suc j) k fit few out l =
    try_stops wide w (x ∷ xs) (best wide w) (suc j) k (omega arith) l out
    (omega (
      arith,
      try_le_first wide w (x ∷ xs) (best wide w) 1 (suc j) (omega arith) (omega arith),
      one_word_le wide w x xs fit (best_costs_le_squares wide w xs (all_fit_drop wide w (x ∷ xs) 1 fit)),
    ))
