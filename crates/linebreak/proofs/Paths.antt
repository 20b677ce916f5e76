-- From line to line: the best lines from a word on are a first line, and then the best lines from the word behind it.
use Rattle.std.proofs.Common.{◌≡◌, ℕ, zero, suc, ◌+◌, ◌-◌, ◌<◌, ◌≤◌, List, [], ◌∷◌, length, get_or, drop, sym, ap, ◌∙◌, inl, inr, arith}
use Rattle.std.proofs.lemmas.List.{drop-drop}
use Rattle.std.proofs.lemmas.Bool.{lt-ltb, le-ltb, cases_lt}
use Rattle.meaning.specs.Lines.{Word, Best, try, best}
use Rattle.meaning.proofs.Picks.{pick_true, pick_false}
use Rattle.meaning.proofs.Best.{first_line, try_one, try_takes, try_keeps, best_drop}
use Rattle.linebreak.specs.Slots.{words_at, Solved, followed, LinesFollow}
use Rattle.linebreak.proofs.Tries.{best_past}

-- what is best begins with one of the first lines that were tried
pub try_is_first_line :
    (wide : ℕ → ℕ) (width : ℕ) (ws : List Word) (rest : List Word → Best) (k : ℕ) → 0 < k →
    (j : ℕ) × (0 < j) × (j ≤ k) × (try wide width ws rest k ≡ first_line wide width ws rest j)
try_is_first_line wide width ws rest zero p = absurd (omega arith)
try_is_first_line wide width ws rest (suc zero) p = (1, omega arith, omega arith, try_one wide width ws rest)
try_is_first_line wide width ws rest (suc (suc k)) p =
    let (j, some, within, e) = try_is_first_line wide width ws rest (suc k) (omega arith) in
    elim (cases_lt (try wide width ws rest (suc k)).costs (first_line wide width ws rest (suc (suc k))).costs) [
      | inl dear ↦ (j, some, omega arith, try_keeps wide width ws rest (suc k) (omega arith) dear ∙ e)
      | inr cheap ↦ (suc (suc k), omega arith, omega arith, try_takes wide width ws rest (suc k) (omega arith) cheap)
    ]

pub record Steps (wide : ℕ → ℕ) (width : ℕ) (ws : List Word) (k size : ℕ) : Type 0 where
  pub some : 0 < size
  pub within : k + size ≤ length ws
  pub step : (best wide width (drop k ws)).ks ≡ size ∷ (best wide width (drop (k + size) ws)).ks

pub best_steps : (wide : ℕ → ℕ) (width : ℕ) (ws : List Word) (k : ℕ) → k < length ws → Steps wide width ws k (get_or (best wide width (drop k ws)).ks 0 0)
best_steps wide width ws k l =
    let (j, some, within, e) = try_is_first_line wide width (drop k ws) (best wide width) (length ws - k) (omega arith) in
    let step : (best wide width (drop k ws)).ks ≡ j ∷ (best wide width (drop (k + j) ws)).ks =
    ap (λ (b : Best). b.ks) (best_drop wide width ws k ∙ e) ∙ ap (λ (vs : List Word). j ∷ (best wide width vs).ks) (drop-drop j k ws)
    in
    let first : get_or (best wide width (drop k ws)).ks 0 0 ≡ j = ap (λ (ks : List ℕ). get_or ks 0 0) step in
    rw first (record { some = some; within = omega arith; step = step })

module _ (wide : ℕ → ℕ) (width : ℕ) (ws : List Word) (xs : List ℕ) (n : ℕ) (all : length ws ≡ n) (s : Solved wide width ws xs n) where
  slot_steps : (k : ℕ) → k < n → Steps wide width ws k (words_at xs k)
  slot_steps k l = rw (s.firsts k l) (best_steps wide width ws k (omega arith))

  none_past : (k : ℕ) → n ≤ k → (best wide width (drop k ws)).ks ≡ []
  none_past k l = ap (λ (b : Best). b.ks) (best_past wide width ws k (omega arith))

  -- from any slot on, with as many steps as there are words, or more
  pub followed_from : (steps k : ℕ) → n ≤ k + steps → followed steps xs n k ≡ (best wide width (drop k ws)).ks
  unfolding followed
  followed_from zero k enough = sym (none_past k (omega arith))
  followed_from (suc steps) k enough =
      elim (cases_lt k n) [
        | inl l ↦
            let one = slot_steps k l in
            pick_true _ _ _ (lt-ltb k n l)
            ∙ (ap (λ (ks : List ℕ). words_at xs k ∷ ks) (followed_from steps (k + words_at xs k) (omega (arith, one.some))) ∙ sym one.step)
        | inr l ↦ pick_false _ _ _ (le-ltb k n l) ∙ sym (none_past k l)
      ]

pub lines_follow : LinesFollow
lines_follow wide width ws xs n all s =
    record {
      whole = λ steps enough. followed_from wide width ws xs n all s steps 0 (omega arith);
      some = λ k l. (slot_steps wide width ws xs n all s k l).some;
      within = λ k l. omega (arith, (slot_steps wide width ws xs n all s k l).within);
      step = λ k l. (slot_steps wide width ws xs n all s k l).step;
    }
