-- From line to line by the slots alone, and that slots with the best lines lead through them.
use Rattle.std.proofs.Common.{◌≡◌, ℕ, zero, suc, ◌+◌, ◌-◌, ◌*◌, ◌/◌, ◌<◌, ◌≤◌, true, false, List, [], ◌∷◌, map, length, sym, refl, ap, ◌∙◌, ap₂, inl, inr, arith}
use Rattle.std.specs.List.{AllByRecursion as All}
use Rattle.std.specs.declared.ops.Range.{Range}
use Rattle.std.proofs.lemmas.Bool.{lt-ltb, le-ltb, cases_lt}
use Rattle.std.proofs.lemmas.Bool.Decides.{nat_tests}
use Rattle.meaning.specs.Text.{pick}
use Rattle.meaning.specs.Lines.{Word}
use Rattle.meaning.proofs.Picks.{pick_true, pick_false, pick_both}
use Rattle.linebreak.specs.Slots.{words_at, followed, Follows}
use Rattle.linebreak.specs.Lines.{places, begins_line, lines_from, lines_of, Leads, LinesLead}
use Rattle.linebreak.proofs.Paths.{lines_follow}

-- the words of a line that begins somewhere
begins : (xs : List ℕ) (k : ℕ) → begins_line xs k ≡ true → (0 < words_at xs k) × (k + words_at xs k ≤ length xs / 8)
begins xs k e = grind (arith, nat_tests)

begins_here : (xs : List ℕ) (k : ℕ) → 0 < words_at xs k → k + words_at xs k ≤ length xs / 8 → begins_line xs k ≡ true
begins_here xs k a b = grind (arith, nat_tests)

pub begins_not : (xs : List ℕ) (k : ℕ) → (0 < words_at xs k → length xs / 8 < k + words_at xs k) → begins_line xs k ≡ false
begins_not xs k l = grind (arith, nat_tests)

begins_none : (xs : List ℕ) (k : ℕ) → length xs / 8 ≤ k → begins_line xs k ≡ false
begins_none xs k l = grind (arith, nat_tests)

-- with as many steps as there are words, or more, they are all there
enough_steps : (a b : ℕ) (xs : List ℕ) (k : ℕ) → length xs / 8 ≤ k + a → length xs / 8 ≤ k + b → lines_from a xs k ≡ lines_from b xs k
unfolding lines_from
enough_steps zero zero xs k p q = refl
enough_steps zero (suc b) xs k p q = sym (pick_false _ _ _ (begins_none xs k (omega arith)))
enough_steps (suc a) zero xs k p q = pick_false _ _ _ (begins_none xs k (omega arith))
enough_steps (suc a) (suc b) xs k p q =
    pick_both (begins_line xs k) (record { start = k; end = k + words_at xs k } ∷ lines_from a xs (k + words_at xs k)) []
    (λ (lines : List (Range ℕ)). lines ≡ pick (begins_line xs k) (record { start = k; end = k + words_at xs k } ∷ lines_from b xs (k + words_at xs k)) [])
    (λ e.
    let some = (begins xs k e).0 in
    sym (pick_true _ _ _ e
    ∙ ap (λ (lines : List (Range ℕ)). record { start = k; end = k + words_at xs k } ∷ lines) (sym (enough_steps a b xs (k + words_at xs k) (omega arith) (omega arith)))))
    (λ e. sym (pick_false _ _ _ e))

pub line_more :
    (steps : ℕ) (xs : List ℕ) (k : ℕ) → length xs / 8 ≤ k + steps → 0 < words_at xs k → k + words_at xs k ≤ length xs / 8 →
    lines_from steps xs k ≡ record { start = k; end = k + words_at xs k } ∷ lines_from steps xs (k + words_at xs k)
unfolding lines_from
line_more zero xs k enough some within = absurd (let n : ⊥ = omega arith in n)
line_more (suc steps) xs k enough some within =
    pick_true _ _ _ (begins_here xs k some within)
    ∙ ap (λ (lines : List (Range ℕ)). record { start = k; end = k + words_at xs k } ∷ lines)
    (enough_steps steps (suc steps) xs (k + words_at xs k) (omega arith) (omega arith))

pub lines_end : (steps : ℕ) (xs : List ℕ) (k : ℕ) → begins_line xs k ≡ false → lines_from steps xs k ≡ []
unfolding lines_from
lines_end zero xs k e = refl
lines_end (suc steps) xs k e = pick_false _ _ _ e

-- the words that slots say their lines have
sizes_from :
    (steps : ℕ) (xs : List ℕ) (k : ℕ) → ((j : ℕ) → j < length xs / 8 → (0 < words_at xs j) × (j + words_at xs j ≤ length xs / 8)) → k ≤ length xs / 8 →
    lines_from steps xs k ≡ places k (followed steps xs (length xs / 8) k)
unfolding lines_from places followed
sizes_from zero xs k good l = refl
sizes_from (suc steps) xs k good l =
    elim (cases_lt k (length xs / 8)) [
      | inl p ↦
          let (some, within) = good k p in
          pick_true _ _ _ (begins_here xs k some within)
          ∙ (ap (λ (lines : List (Range ℕ)). record { start = k; end = k + words_at xs k } ∷ lines) (sizes_from steps xs (k + words_at xs k) good within)
          ∙ sym (ap (places k) (pick_true _ _ _ (lt-ltb k (length xs / 8) p))))
      | inr p ↦ pick_false _ _ _ (begins_none xs k p) ∙ sym (ap (places k) (pick_false _ _ _ (le-ltb k (length xs / 8) p)))
    ]

places_sizes : (k : ℕ) (sizes : List ℕ) → map (λ (line : Range ℕ). line.end - line.start) (places k sizes) ≡ sizes
unfolding places
places_sizes k [] = refl
places_sizes k (size ∷ sizes) = ap₂ (λ (a : ℕ) (more : List ℕ). a ∷ more) (omega arith) (places_sizes (k + size) sizes)

-- slots that lead through the best lines
pub leads : (wide : ℕ → ℕ) (width : ℕ) (ws : List Word) (xs : List ℕ) (n : ℕ) → length xs ≡ 8 * n → Follows wide width ws xs n → Leads wide width ws xs n
leads wide width ws xs n whole f =
    let count : length xs / 8 ≡ n = omega arith in
    let good : (j : ℕ) → j < length xs / 8 → (0 < words_at xs j) × (j + words_at xs j ≤ length xs / 8) =
    λ j l. (f.some j (omega arith), omega (arith, f.within j (omega arith)))
    in
    let lines : lines_of xs ≡ places 0 (followed n xs n 0) =
    sizes_from (length xs / 8) xs 0 good (omega arith) ∙ ap (λ (m : ℕ). places 0 (followed m xs m 0)) count
    in
    record {
      lines = lines ∙ ap (places 0) (f.whole n (omega arith));
      sizes = ap (map (λ (line : Range ℕ). line.end - line.start)) lines ∙ places_sizes 0 (followed n xs n 0);
    }

pub lines_lead : LinesLead
lines_lead wide width ws xs n all whole s = leads wide width ws xs n whole (lines_follow wide width ws xs n all s)

-- whatever the slots say, a line's words are at places of the slots, and there are no more lines than slots
pub lines_within : (steps : ℕ) (xs : List ℕ) (k : ℕ) → All (λ (line : Range ℕ). (line.start ≤ line.end) × (line.end ≤ length xs / 8)) (lines_from steps xs k)
unfolding lines_from
lines_within zero xs k = tt
lines_within (suc steps) xs k =
    pick_both (begins_line xs k) (record { start = k; end = k + words_at xs k } ∷ lines_from steps xs (k + words_at xs k)) []
    (All (λ (line : Range ℕ). (line.start ≤ line.end) × (line.end ≤ length xs / 8)))
    (λ e. ((omega arith, (begins xs k e).1), lines_within steps xs (k + words_at xs k)))
    (λ _. tt)

pub lines_few : (steps : ℕ) (xs : List ℕ) (k : ℕ) → length (lines_from steps xs k) ≤ steps
unfolding lines_from
lines_few zero xs k = omega arith
lines_few (suc steps) xs k =
    pick_both (begins_line xs k) (record { start = k; end = k + words_at xs k } ∷ lines_from steps xs (k + words_at xs k)) []
    (λ (lines : List (Range ℕ)). length lines ≤ suc steps)
    (λ _. omega (arith, lines_few steps xs (k + words_at xs k)))
    (λ _. omega arith)
