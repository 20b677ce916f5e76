-- Where every word fits, no line of the best sticks out: such a line costs more than one word a line.
use Rattle.std.proofs.Common.{◌≡◌, ℕ, ◌<◌, Bool, true, false, leb, List, [], ◌∷◌, length, take, drop, refl, inl, inr, arith}
use Rattle.std.proofs.lemmas.Bool.{le-leb, and_from, cases_lt}
use Rattle.meaning.specs.Lines.{Word, natural, line_cost, cost, best}
use Rattle.meaning.specs.Promise.{lines_fit, SticksOut}
use Rattle.meaning.proofs.Widths.{line_cost_is_row, row_cost_sticks_out}
use Rattle.meaning.proofs.Best.{best_costs_le_squares, squares_lt}
use Rattle.meaning.proofs.BestOfAll.{cost_best}

-- a line that costs less than sticking out does fits
pub fits_from_cost : (wide : ℕ → ℕ) (w : ℕ) (ws : List Word) (is_last : Bool) → line_cost wide w ws is_last < 10000000000 → leb (natural wide ws) w ≡ true
fits_from_cost wide w ws is_last cheap =
    elim (cases_lt w (natural wide ws)) [
      | inl out ↦ absurd (omega (arith, line_cost_is_row wide w ws is_last, row_cost_sticks_out w (natural wide ws) is_last out))
      | inr fits ↦ le-leb (natural wide ws) w fits
    ]

pub lines_fit_from_cost : (wide : ℕ → ℕ) (w : ℕ) (ws : List Word) (ks : List ℕ) → cost wide w ws ks < 10000000000 → lines_fit wide w ws ks ≡ true
unfolding cost lines_fit
lines_fit_from_cost wide w ws [] cheap = refl
lines_fit_from_cost wide w ws (k ∷ []) cheap = and_from _ _ (fits_from_cost wide w (take k ws) true cheap) refl
lines_fit_from_cost wide w ws (k ∷ (j ∷ ks)) cheap =
    and_from _ _ (fits_from_cost wide w (take k ws) false (omega arith)) (lines_fit_from_cost wide w (drop k ws) (j ∷ ks) (omega arith))

pub sticks_out : SticksOut
unfolding SticksOut
sticks_out wide w ws few narrow fit =
    lines_fit_from_cost wide w ws (best wide w ws).ks
    (omega (arith, cost_best wide w ws, best_costs_le_squares wide w ws fit, squares_lt (length ws) w few narrow))
