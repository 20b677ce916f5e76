-- How far a walk has come that seeks lines of a page.
use Rattle.std.proofs.Common.{◌≡◌, ℕ, ◌+◌, ◌≤◌, true, false, ◌||◌, eqb, ltb, ◌⊎◌, List, [], ◌∷◌, length, sym, refl, ap, ◌∙◌, subst, inl, inr, arith}
use Rattle.std.proofs.lemmas.Bool.{true≢false, cases_Bool}
use Rattle.meaning.proofs.Picks.{pick_both}
use Rattle.layout.specs.Walks.{stepped, goes_past, found_line, searched}
use Rattle.layout.specs.declared.walk.Walk.{Walk}
use Rattle.layout.specs.declared.search.Search.{Search}
use Rattle.layout.proofs.Searching.{found_done, found_on}

-- lines that the walk has seen
abbrev pub seen : Walk → ℕ
seen w = w.before + w.lines

step_seen : (rows h : ℕ) (w : Walk) → seen (stepped rows w h) ≡ seen w + 1
step_seen rows h w = pick_both (eqb w.lines 0 || ltb rows (w.rows + h)) _ _ (λ (v : Walk). seen v ≡ seen w + 1) (λ _. omega arith) (λ _. omega arith)

-- the same page, or one that begins behind the lines seen before
abbrev pub Turns : Walk → Walk → Type 0
Turns w v = ((v.pages ≡ w.pages) × (v.before ≡ w.before)) ⊎ (seen w ≤ v.before)

step_turns : (rows h : ℕ) (w : Walk) → Turns w (stepped rows w h)
step_turns rows h w = pick_both (eqb w.lines 0 || ltb rows (w.rows + h)) _ _ (Turns w) (λ _. inr (omega arith)) (λ _. inl (refl, refl))

-- one line more: the walk is done and stays, or has seen it
pub record Moves (rows h : ℕ) (s t : Search) : Type 0 where
  pub goal : t.goal ≡ s.goal
  pub turns : Turns s.walk t.walk
  pub no_less : seen s.walk ≤ seen t.walk
  pub no_more : seen t.walk ≤ seen s.walk + 1
  pub on : t.done ≡ false → (s.done ≡ false) × (seen t.walk ≡ seen s.walk + 1)

moves_stay : (rows h : ℕ) (s t : Search) → t.goal ≡ s.goal → t.walk ≡ s.walk → t.done ≡ true → Moves rows h s t
moves_stay rows h s t e f d =
    record {
      goal = e;
      turns = inl (ap (λ (w : Walk). w.pages) f, ap (λ (w : Walk). w.before) f);
      no_less = omega (arith, ap seen f);
      no_more = omega (arith, ap seen f);
      on = λ z. absurd (true≢false (sym d ∙ z));
    }

pub moves : (rows h : ℕ) (s : Search) → Moves rows h s (found_line rows s h)
moves rows h s =
    elim (cases_Bool s.done) [
      | inl d ↦ subst (Moves rows h s) (sym (found_done rows h s d)) (moves_stay rows h s s refl refl d)
      | inr d ↦
          let v : Walk = stepped rows s.walk h in
          subst (Moves rows h s) (sym (found_on rows h s d))
          (pick_both (goes_past s.goal v) _ _ (Moves rows h s)
          (λ _. moves_stay rows h s _ refl refl refl)
          (λ _.
          record {
            goal = refl;
            turns = step_turns rows h s.walk;
            no_less = omega (arith, step_seen rows h s.walk);
            no_more = omega (arith, step_seen rows h s.walk);
            on = λ _. (d, step_seen rows h s.walk);
          }))
    ]

turns_more : (u w v : Walk) → seen u ≤ seen w → Turns u w → Turns w v → Turns u v
turns_more u w v s (inl (p, b)) (inl (q, d)) = inl (q ∙ p, d ∙ b)
turns_more u w v s (inl (p, b)) (inr h) = inr (omega (arith, s))
turns_more u w v s (inr h) (inl (q, d)) = inr (omega (arith, d))
turns_more u w v s (inr h) (inr k) = inr (omega (arith, s))

-- and several
pub record MovesAll (n : ℕ) (s t : Search) : Type 0 where
  pub goal : t.goal ≡ s.goal
  pub turns : Turns s.walk t.walk
  pub no_less : seen s.walk ≤ seen t.walk
  pub on : t.done ≡ false → (s.done ≡ false) × (seen t.walk ≡ seen s.walk + n)

pub moves_all : (rows : ℕ) (hs : List ℕ) (s : Search) → MovesAll (length hs) s (searched rows hs s)
unfolding searched
moves_all rows [] s = record { goal = refl; turns = inl (refl, refl); no_less = omega arith; on = λ d. (d, omega arith) }
moves_all rows (h ∷ hs) s =
    let t : Search = found_line rows s h in
    let one = moves rows h s in
    let all = moves_all rows hs t in
    record {
      goal = all.goal ∙ one.goal;
      turns = turns_more s.walk t.walk (searched rows hs t).walk one.no_less one.turns all.turns;
      no_less = omega (arith, one.no_less, all.no_less);
      on = λ d. ((one.on (all.on d).0).0, omega (arith, (all.on d).1, (one.on (all.on d).0).1));
    }
