-- How wide the words of a line are together, and what the line costs: only the words' widths and the width of a space matter.
use Rattle.std.proofs.Common.{◌≡◌, ℕ, zero, suc, ◌+◌, ◌-◌, ◌*◌, ◌<◌, ◌≤◌, Bool, leb, List, [], ◌∷◌, map, length, get_or, take, drop, sum, sym, refl, ap, ◌∙◌, ap₂, inl, inr, add-zero, suc-mul, mul-le-mul, sub-le, arith}
use Rattle.std.proofs.lemmas.List.{length-drop, length-map, get_or-drop, take_all, take-map, drop-map}
use Rattle.std.proofs.lemmas.List.Sums.{sum_by-cons}
use Rattle.std.proofs.lemmas.Bool.{le-leb, lt-leb, cases_lt}
use Rattle.meaning.specs.Text.{pick}
use Rattle.meaning.specs.Lines.{Word, long, natural, line_cost}
use Rattle.meaning.proofs.Picks.{pick_true, pick_false, pick_both}

-- how wide each word is
abbrev pub widths : (ℕ → ℕ) → List Word → List ℕ
widths wide ws = map (λ (x : Word). long wide x.letters) ws

pub length_widths : (wide : ℕ → ℕ) (ws : List Word) → length (widths wide ws) ≡ length ws
length_widths wide ws = length-map ws (λ (x : Word). long wide x.letters)

pub take_widths : (wide : ℕ → ℕ) (k : ℕ) (ws : List Word) → take k (widths wide ws) ≡ widths wide (take k ws)
take_widths wide k ws = take-map (λ (x : Word). long wide x.letters) k ws

pub drop_widths : (wide : ℕ → ℕ) (k : ℕ) (ws : List Word) → drop k (widths wide ws) ≡ widths wide (drop k ws)
drop_widths wide k ws = drop-map (λ (x : Word). long wide x.letters) k ws

-- how wide words of these widths are together, each a space from the next
unfoldable pub row : ℕ → List ℕ → ℕ
row space [] = 0
row space (a ∷ []) = a
row space (a ∷ (b ∷ bs)) = a + space + row space (b ∷ bs)

-- what a line costs whose words are so wide together
abbrev pub row_cost : ℕ → ℕ → Bool → ℕ
row_cost w n is_last = pick (leb n w) (pick is_last 0 ((w - n) * (w - n))) (10000000000 + (n - w))

pub natural_is_row : (wide : ℕ → ℕ) (ws : List Word) → natural wide ws ≡ row (wide 32) (widths wide ws)
unfolding natural row
natural_is_row wide [] = refl
natural_is_row wide (x ∷ []) = refl
natural_is_row wide (x ∷ (y ∷ ys)) = ap (λ (n : ℕ). long wide x.letters + wide 32 + n) (natural_is_row wide (y ∷ ys))

pub natural_like :
    (wide wide' : ℕ → ℕ) (ws vs : List Word) → wide 32 ≡ wide' 32 → widths wide ws ≡ widths wide' vs → natural wide ws ≡ natural wide' vs
natural_like wide wide' ws vs space same = natural_is_row wide ws ∙ ap₂ row space same ∙ sym (natural_is_row wide' vs)

natural_take : (wide : ℕ → ℕ) (k : ℕ) (ws : List Word) → natural wide (take k ws) ≡ row (wide 32) (take k (widths wide ws))
natural_take wide k ws = natural_is_row wide (take k ws) ∙ ap (row (wide 32)) (sym (take_widths wide k ws))

-- of k words from place i on
pub natural_part : (wide : ℕ → ℕ) (i k : ℕ) (ws : List Word) → natural wide (take k (drop i ws)) ≡ row (wide 32) (take k (drop i (widths wide ws)))
natural_part wide i k ws = natural_take wide k (drop i ws) ∙ ap (λ (ns : List ℕ). row (wide 32) (take k ns)) (sym (drop_widths wide i ws))

-- a row, one width after the other
row_one : (space : ℕ) (ns : List ℕ) → 0 < length ns → row space (take 1 ns) ≡ get_or ns 0 0
unfolding row
row_one space [] p = absurd (omega arith)
row_one space (n ∷ ns) p = refl

row_more :
    (space : ℕ) (ns : List ℕ) (k : ℕ) → 0 < k → k < length ns → row space (take (suc k) ns) ≡ row space (take k ns) + space + get_or ns k 0
unfolding row
row_more space [] k p l = absurd (omega arith)
row_more space (n ∷ ns) zero p l = absurd (omega arith)
row_more space (n ∷ []) (suc k) p l = absurd (omega arith)
row_more space (n ∷ (m ∷ ms)) (suc zero) p l = refl
row_more space (n ∷ (m ∷ ms)) (suc (suc k)) p l = omega (arith, row_more space (m ∷ ms) (suc k) (omega arith) (omega arith))

pub row_part_one : (space : ℕ) (ns : List ℕ) (i : ℕ) → i < length ns → row space (take 1 (drop i ns)) ≡ get_or ns i 0
row_part_one space ns i l =
    row_one space (drop i ns) (omega (arith, length-drop i ns)) ∙ get_or-drop i ns 0 0 ∙ ap (λ (j : ℕ). get_or ns j 0) (add-zero i)

pub row_part_more :
    (space : ℕ) (ns : List ℕ) (i k : ℕ) → 0 < k → i + k < length ns →
    row space (take (suc k) (drop i ns)) ≡ row space (take k (drop i ns)) + space + get_or ns (i + k) 0
row_part_more space ns i k p l =
    row_more space (drop i ns) k p (omega (arith, length-drop i ns)) ∙ ap (λ (n : ℕ). row space (take k (drop i ns)) + space + n) (get_or-drop i ns k 0)

-- a row is at most its widths and a space for each
pub row_le : (space : ℕ) (ns : List ℕ) → row space ns ≤ sum ns + length ns * space
unfolding row
row_le space [] = omega arith
row_le space (n ∷ []) = omega (arith, sum_by-cons (λ x. x) n [])
row_le space (n ∷ (m ∷ ms)) = omega (arith, sum_by-cons (λ x. x) n (m ∷ ms), row_le space (m ∷ ms), suc-mul (length (m ∷ ms)) space)

row_step_le : (space : ℕ) (ns : List ℕ) (k : ℕ) → row space (take k ns) ≤ row space (take (suc k) ns)
unfolding row
row_step_le space ns zero = omega arith
row_step_le space ns (suc k) =
    elim (cases_lt (suc k) (length ns)) [
      | inl l ↦ omega (arith, row_more space ns (suc k) (omega arith) l)
      | inr l ↦ omega (arith, ap (row space) (take_all (suc k) ns l), ap (row space) (take_all (suc (suc k)) ns (omega arith)))
    ]

pub row_take_le : (space : ℕ) (ns : List ℕ) (j k : ℕ) → j ≤ k → row space (take j ns) ≤ row space (take k ns)
unfolding row
row_take_le space ns zero k l = omega arith
row_take_le space ns (suc j) zero l = absurd (omega arith)
row_take_le space ns (suc j) (suc k) l =
    elim (cases_lt j k) [
      | inl s ↦ omega (arith, row_take_le space ns (suc j) k s, row_step_le space ns k)
      | inr s ↦ let e : j ≡ k = omega arith in omega (arith, ap (λ (i : ℕ). row space (take (suc i) ns)) e)
    ]

pub natural_take_le : (wide : ℕ → ℕ) (ws : List Word) (j k : ℕ) → j ≤ k → natural wide (take j ws) ≤ natural wide (take k ws)
natural_take_le wide ws j k l = omega (arith, natural_take wide j ws, natural_take wide k ws, row_take_le (wide 32) (widths wide ws) j k l)

-- what a line costs, from how wide it is
pub line_cost_is_row : (wide : ℕ → ℕ) (w : ℕ) (ws : List Word) (is_last : Bool) → line_cost wide w ws is_last ≡ row_cost w (natural wide ws) is_last
unfolding line_cost
line_cost_is_row wide w ws is_last = refl

pub line_cost_like :
    (wide wide' : ℕ → ℕ) (w : ℕ) (ws vs : List Word) (is_last : Bool) → wide 32 ≡ wide' 32 → widths wide ws ≡ widths wide' vs →
    line_cost wide w ws is_last ≡ line_cost wide' w vs is_last
line_cost_like wide wide' w ws vs is_last space same =
    line_cost_is_row wide w ws is_last ∙ ap (λ (n : ℕ). row_cost w n is_last) (natural_like wide wide' ws vs space same) ∙ sym (line_cost_is_row wide' w vs is_last)

pub row_cost_fits : (w n : ℕ) (is_last : Bool) → n ≤ w → row_cost w n is_last ≡ pick is_last 0 ((w - n) * (w - n))
row_cost_fits w n is_last l = pick_true (leb n w) _ _ (le-leb n w l)

pub row_cost_sticks_out : (w n : ℕ) (is_last : Bool) → w < n → row_cost w n is_last ≡ 10000000000 + (n - w)
row_cost_sticks_out w n is_last l = pick_false (leb n w) _ _ (lt-leb n w l)

pub row_cost_le : (w n : ℕ) (is_last : Bool) → n ≤ w → row_cost w n is_last ≤ w * w
row_cost_le w n is_last l =
    rw (row_cost_fits w n is_last l)
    (pick_both is_last 0 ((w - n) * (w - n)) (λ c. c ≤ w * w) (λ _. omega arith) (λ _. mul-le-mul (sub-le w n) (sub-le w n)))
