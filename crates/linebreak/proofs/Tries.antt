-- The best lines from a word on, once those of later words are known: first lines are tried, one word more at a time.
use Rattle.std.proofs.Common.{◌≡◌, ℕ, suc, ◌+◌, ◌-◌, ◌<◌, ◌≤◌, eqb, List, [], length, get_or, take, drop, sym, refl, ap, ◌∙◌, ap₂, inl, inr, arith}
use Rattle.std.proofs.lemmas.List.{length-drop, get_or-map, drop_all, drop-drop}
use Rattle.std.proofs.lemmas.Bool.{lt-ltb, le-ltb, cases_lt}
use Rattle.std.proofs.lemmas.Bool.Decides.{nat_tests}
use Rattle.meaning.specs.Lines.{Word, nothing_yet, long, natural, Best, try, best}
use Rattle.meaning.proofs.Picks.{pick_true, pick_false}
use Rattle.meaning.proofs.Widths.{widths, length_widths, natural_part, row_part_one, row_part_more, line_cost_is_row}
use Rattle.meaning.proofs.Best.{first_line, try_one, try_takes, try_keeps, try_stops, best_none, best_drop}
use Rattle.linebreak.specs.Slots.{width_at, Measured, line_costs, cost_from}
use Rattle.linebreak.specs.Ways.{SolvedFrom, Shown}

shown_at : (a b : Best) (cost words : ℕ) → a ≡ b → Shown b cost words → Shown a cost words
shown_at a b cost words e s = rw e s

-- behind the last word there is nothing to break
pub best_past : (wide : ℕ → ℕ) (width : ℕ) (ws : List Word) (k : ℕ) → length ws ≤ k → best wide width (drop k ws) ≡ record { costs = 0; ks = [] }
best_past wide width ws k l = ap (best wide width) (drop_all k ws l) ∙ best_none wide width

-- of first lines from word i with at most k words, the best; those k words are so wide
pub record Tried (wide : ℕ → ℕ) (width : ℕ) (ws : List Word) (i k across cost words : ℕ) : Type 0 where
  pub line : across ≡ natural wide (take k (drop i ws))
  pub shown : Shown (try wide width (drop i ws) (best wide width) k) cost words

last_same : (i k n l : ℕ) → l ≡ n - i → i ≤ n → eqb (i + k) n ≡ eqb l k
last_same i k n l e h = grind (arith, nat_tests)

module _ (wide : ℕ → ℕ) (width : ℕ) (ws : List Word) (xs : List ℕ) (n space : ℕ) (m : Measured wide ws xs n space) where
  getD_widths : (k : ℕ) → k < n → get_or (widths wide ws) k 0 ≡ width_at xs k
  getD_widths k l = get_or-map (λ (x : Word). long wide x.letters) ws k nothing_yet 0 (omega (arith, m.as_many)) ∙ sym (m.each k l)

  natural_one : (i : ℕ) → i < n → width_at xs i ≡ natural wide (take 1 (drop i ws))
  natural_one i l =
      sym (natural_part wide i 1 ws ∙ row_part_one (wide 32) (widths wide ws) i (omega (arith, m.as_many, length_widths wide ws)) ∙ getD_widths i l)

  natural_more :
      (i k across : ℕ) → 0 < k → i + k < n → across ≡ natural wide (take k (drop i ws)) →
      across + (space + width_at xs (i + k)) ≡ natural wide (take (suc k) (drop i ws))
  natural_more i k across p l e =
      omega (
        arith,
        m.gap,
        natural_part wide i k ws,
        natural_part wide i (suc k) ws,
        row_part_more (wide 32) (widths wide ws) i k p (omega (arith, m.as_many, length_widths wide ws)),
        getD_widths (i + k) l,
      )

  -- all the words have been tried
  pub tried_all : (i across cost words : ℕ) → Tried wide width ws i (n - i) across cost words → Shown (best wide width (drop i ws)) cost words
  tried_all i across cost words t =
      shown_at _ (try wide width (drop i ws) (best wide width) (n - i)) cost words
      (best_drop wide width ws i ∙ ap (λ (k : ℕ). try wide width (drop i ws) (best wide width) (k - i)) m.as_many) t.shown

  module _ (i : ℕ) (l : i < n) (s : SolvedFrom wide width ws xs n (i + 1)) where
    cost_from_is : (k : ℕ) → i < k → cost_from xs n k ≡ (best wide width (drop k ws)).costs
    cost_from_is k p =
        elim (cases_lt k n) [
          | inl q ↦ pick_true _ _ _ (lt-ltb k n q) ∙ s.costs k (omega arith) q
          | inr q ↦ pick_false _ _ _ (le-ltb k n q) ∙ sym (ap (λ (b : Best). b.costs) (best_past wide width ws k (omega (arith, m.as_many))))
        ]

    -- a first line of k words, as the code reckons it
    first_line_costs :
        (k across : ℕ) → 0 < k → across ≡ natural wide (take k (drop i ws)) →
        line_costs width across (eqb (i + k) n) + cost_from xs n (i + k) ≡ (first_line wide width (drop i ws) (best wide width) k).costs
    first_line_costs k across p e =
        ap₂ (λ (a b : ℕ). a + b)
        (ap₂ (line_costs width) e (last_same i k n (length (drop i ws)) (omega (arith, m.as_many, length-drop i ws)) (omega arith))
        ∙ sym (line_cost_is_row wide width (take k (drop i ws)) (eqb (length (drop i ws)) k)))
        (cost_from_is (i + k) (omega arith) ∙ ap (λ (vs : List Word). (best wide width vs).costs) (sym (drop-drop k i ws)))

    pub tried_one :
        (cost : ℕ) → cost ≡ line_costs width (width_at xs i) (eqb (i + 1) n) + cost_from xs n (i + 1) →
        Tried wide width ws i (i + 1 - i) (width_at xs i) cost 1
    tried_one cost e =
        let one : i + 1 - i ≡ 1 = omega arith in
        rw one
        (record {
          line = natural_one i l;
          shown =
              shown_at _ (first_line wide width (drop i ws) (best wide width) 1) cost 1 (try_one wide width (drop i ws) (best wide width))
              (record { costs = e ∙ first_line_costs 1 (width_at xs i) (omega arith) (natural_one i l); first = refl });
        })

    -- of the words from i to before j the best first line is known; now the word at j is tried too
    module _ (j across cost words : ℕ) (p : i < j) (q : j < n) (t : Tried wide width ws i (j - i) across cost words) where
      at_j : i + (j - i) ≡ j
      at_j = omega arith

      past_j : i + suc (j - i) ≡ j + 1
      past_j = omega arith

      one_more : suc (j - i) ≡ j + 1 - i
      one_more = omega arith

      wider : across + (space + width_at xs j) ≡ natural wide (take (suc (j - i)) (drop i ws))
      wider = rw at_j at (natural_more i (j - i) across (omega arith) (omega arith) t.line)

      with_costs :
          line_costs width (across + (space + width_at xs j)) (eqb (j + 1) n) + cost_from xs n (j + 1)
          ≡ (first_line wide width (drop i ws) (best wide width) (suc (j - i))).costs
      with_costs = rw past_j at (first_line_costs (suc (j - i)) (across + (space + width_at xs j)) (omega arith) wider)

      pub tried_takes :
          (with size : ℕ) → with ≡ line_costs width (across + (space + width_at xs j)) (eqb (j + 1) n) + cost_from xs n (j + 1) → size ≡ j + 1 - i →
          with ≤ cost → Tried wide width ws i (j + 1 - i) (across + (space + width_at xs j)) with size
      tried_takes with size e f h =
          rw (← one_more)
          (record {
            line = wider;
            shown =
                shown_at _ (first_line wide width (drop i ws) (best wide width) (suc (j - i))) with size
                (try_takes wide width (drop i ws) (best wide width) (j - i) (omega arith) (omega (arith, with_costs, t.shown.costs)))
                (record { costs = e ∙ with_costs; first = f ∙ sym one_more });
          })

      pub tried_keeps :
          (with : ℕ) → with ≡ line_costs width (across + (space + width_at xs j)) (eqb (j + 1) n) + cost_from xs n (j + 1) → cost < with →
          Tried wide width ws i (j + 1 - i) (across + (space + width_at xs j)) cost words
      tried_keeps with e h =
          rw (← one_more)
          (record {
            line = wider;
            shown =
                shown_at _ (try wide width (drop i ws) (best wide width) (j - i)) cost words
                (try_keeps wide width (drop i ws) (best wide width) (j - i) (omega arith) (omega (arith, with_costs, t.shown.costs))) t.shown;
          })

      pub tried_stops : width < across + (space + width_at xs j) → cost < 10000000000 → Shown (best wide width (drop i ws)) cost words
      tried_stops out cheap =
          shown_at _ (try wide width (drop i ws) (best wide width) (j - i)) cost words
          (best_drop wide width ws i
          ∙ try_stops wide width (drop i ws) (best wide width) (j - i) (length ws - i) (omega arith) (omega (arith, m.as_many)) (omega (arith, wider)) (omega (arith, t.shown.costs)))
          t.shown
