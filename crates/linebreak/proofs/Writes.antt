-- A slot's cost and words are written: what the slots have then, and that their costs stay small.
use Rattle.std.proofs.Common.{◌≡◌, ℕ, ◌+◌, ◌-◌, ◌*◌, ◌<◌, ◌≤◌, Bool, ltb, leb, ◌≢◌, List, length, get_or, drop, set, ◌∙◌, inl, inr, mul-le-mul, sub-le, arith}
use Rattle.std.proofs.lemmas.List.{length-set, get_or-set_same, get_or-set_other}
use Rattle.std.proofs.lemmas.Bool.{ltb-true, cases_eq}
use Rattle.meaning.specs.Lines.{Word, best}
use Rattle.meaning.proofs.Picks.{pick_both}
use Rattle.linebreak.specs.Slots.{cost_at, words_at, Measured, Solved, Leaves, line_costs, cost_from}
use Rattle.linebreak.specs.Ways.{SolvedFrom, Shown, dearest, SmallFrom}

pub line_costs_le : (width natural : ℕ) (is_last : Bool) → width ≤ 1000 → natural ≤ 4096 * 1048831 → line_costs width natural is_last ≤ dearest
line_costs_le width natural is_last a b =
    pick_both (leb natural width) _ _ (λ c. c ≤ dearest)
    (λ _. pick_both is_last 0 _ (λ c. c ≤ dearest) (λ _. omega arith)
    (λ _. omega (arith, mul-le-mul (sub-le width natural) (sub-le width natural), mul-le-mul a a)))
    (λ _. omega arith)

pub cost_from_le : (xs : List ℕ) (n i k : ℕ) → SmallFrom xs n i → i ≤ k → cost_from xs n k ≤ dearest * (n - k)
cost_from_le xs n i k s p =
    pick_both (ltb k n) (cost_at xs k) 0 (λ c. c ≤ dearest * (n - k)) (λ e. s k p (ltb-true k n e)) (λ _. omega arith)

pub measured_still :
    (wide : ℕ → ℕ) (ws : List Word) (xs ys : List ℕ) (n space : ℕ) → Leaves xs ys n → Measured wide ws xs n space → Measured wide ws ys n space
measured_still wide ws xs ys n space s m =
    record { as_many = m.as_many; gap = m.gap; each = λ k l. s.others (8 * k + 2) (λ j h. omega arith) ∙ m.each k l }

abbrev pub written : List ℕ → ℕ → ℕ → ℕ → List ℕ
written xs i cost words = set (set xs (8 * i + 3) cost) (8 * i + 4) words

module _ (xs : List ℕ) (i cost words : ℕ) where
  length_written : length (written xs i cost words) ≡ length xs
  length_written = length-set (set xs (8 * i + 3) cost) (8 * i + 4) words ∙ length-set xs (8 * i + 3) cost

  getD_written_other : (p : ℕ) → p ≢ 8 * i + 3 → p ≢ 8 * i + 4 → get_or (written xs i cost words) p 0 ≡ get_or xs p 0
  getD_written_other p a b = get_or-set_other (set xs (8 * i + 3) cost) (8 * i + 4) p words 0 b ∙ get_or-set_other xs (8 * i + 3) p cost 0 a

  module _ (n : ℕ) (l : i < n) (room : 8 * n ≤ length xs) where
    cost_at_written : cost_at (written xs i cost words) i ≡ cost
    cost_at_written =
        get_or-set_other (set xs (8 * i + 3) cost) (8 * i + 4) (8 * i + 3) words 0 (omega arith) ∙ get_or-set_same xs (8 * i + 3) cost 0 (omega arith)

    words_at_written : words_at (written xs i cost words) i ≡ words
    words_at_written = get_or-set_same (set xs (8 * i + 3) cost) (8 * i + 4) words 0 (omega (arith, length-set xs (8 * i + 3) cost))

    pub leaves_more : (before : List ℕ) → Leaves before xs n → Leaves before (written xs i cost words) n
    leaves_more before s =
        record {
          as_long = length_written ∙ s.as_long;
          others = λ p h. getD_written_other p (h i l).0 (h i l).1 ∙ s.others p h;
        }

    pub small_more : SmallFrom xs n (i + 1) → cost ≤ dearest * (n - i) → SmallFrom (written xs i cost words) n i
    small_more s h k p q =
        elim (cases_eq k i) [
          | inl e ↦ rw e (omega (arith, cost_at_written))
          | inr e ↦ omega (arith, getD_written_other (8 * k + 3) (omega arith) (omega arith), s k (omega arith) q)
        ]

    pub solved_more :
        (wide : ℕ → ℕ) (width : ℕ) (ws : List Word) → SolvedFrom wide width ws xs n (i + 1) → Shown (best wide width (drop i ws)) cost words →
        SolvedFrom wide width ws (written xs i cost words) n i
    solved_more wide width ws s b =
        record {
          costs = λ k p q. elim (cases_eq k i) [
            | inl e ↦ rw e (cost_at_written ∙ b.costs)
            | inr e ↦ getD_written_other (8 * k + 3) (omega arith) (omega arith) ∙ s.costs k (omega arith) q
          ];
          firsts = λ k p q. elim (cases_eq k i) [
            | inl e ↦ rw e (words_at_written ∙ b.first)
            | inr e ↦ getD_written_other (8 * k + 4) (omega arith) (omega arith) ∙ s.firsts k (omega arith) q
          ];
        }

pub solved_all : (wide : ℕ → ℕ) (width : ℕ) (ws : List Word) (xs : List ℕ) (n : ℕ) → SolvedFrom wide width ws xs n 0 → Solved wide width ws xs n
solved_all wide width ws xs n s = record { costs = λ k l. s.costs k (omega arith) l; firsts = λ k l. s.firsts k (omega arith) l }
