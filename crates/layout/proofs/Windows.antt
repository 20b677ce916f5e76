-- Lines that a window lets through, one after the other.
use Rattle.std.proofs.Common.{◌≡◌, ℕ, zero, suc, ◌-◌, Bool, false, ◌&&◌, eqb, ltb, List, [], ◌∷◌, ◌++◌, length, take, drop, sym, refl, ap, ap₂, ◌∙◌, inl, inr, arith}
use Rattle.std.proofs.lemmas.List.{append_assoc}
use Rattle.std.proofs.lemmas.Bool.{eq-eqb, ne_eqb, lt-ltb, cases_eq}
use Rattle.meaning.specs.Text.{pick}
use Rattle.meaning.specs.Lines.{Line}
use Rattle.meaning.specs.Pages.{Looks}
use Rattle.meaning.specs.Calls.{letters_of}
use Rattle.meaning.specs.Promise.{notes_of}
use Rattle.meaning.proofs.Picks.{pick_true, pick_false}
use Rattle.meaning.proofs.Fills.{notes_of_append}
use Rattle.layout.specs.Found.{inside, is_inside, passed_one, passed}
use Rattle.layout.specs.Paragraphs.{part_rows}
use Rattle.layout.specs.declared.rows.Part.{Part}
use Rattle.layout.specs.declared.rows.Part.TheVariants.{Lines, Notes}
use Rattle.layout.specs.declared.rows.Window.{Window}
use Rattle.layout.proofs.BookLines.{letters_append}

pub part_append : (part : Part) (g : Looks) (ls ms : List Line) → part_rows part g (ls ++ ms) ≡ part_rows part g ls ++ part_rows part g ms
part_append Lines g ls ms = letters_append ls ms
part_append Notes g ls ms = ap letters_of (notes_of_append g ls ms) ∙ letters_append (notes_of g ls) (notes_of g ms)

pub inside_one : {X : Type 0} (w : Window) (l : X) (ls : List X) → inside w (l ∷ ls) ≡ pick (is_inside w) (l ∷ []) [] ++ inside (passed_one w) ls
inside_one {X = X} w l ls = go w.skip w.left
  where
    go : (skip left : ℕ) → ◌≡◌ {A = List X} (take left (drop skip (l ∷ ls))) (pick (eqb skip 0 && ltb 0 left) (l ∷ []) [] ++ inside (pick (eqb skip 0) (record { skip = 0; left = left - 1 }) (record { skip = skip - 1; left = left })) ls)
    go zero zero = refl
    go zero (suc left) =
        let e : suc left - 1 ≡ left = omega arith in
        ap (λ (k : ℕ). l ∷ take k ls) (sym e) ∙ ap (λ (ys : List X). ys ++ take (suc left - 1) ls) (sym (pick_true (ltb 0 (suc left)) (l ∷ []) [] (lt-ltb 0 (suc left) (omega arith))))
    go (suc skip) left =
        let e : suc skip - 1 ≡ skip = omega arith in
        let other : eqb (suc skip) 0 ≡ false = ne_eqb (suc skip) 0 (λ z. omega arith) in
        ap (λ (k : ℕ). take left (drop k ls)) (sym e)
        ∙ ap (λ (b : Bool). pick (b && ltb 0 left) (l ∷ []) [] ++ inside (pick b (record { skip = 0; left = left - 1 }) (record { skip = suc skip - 1; left = left })) ls) (sym other)

same_window : (a b c d : ℕ) → a ≡ b → c ≡ d → ◌≡◌ {A = Window} (record { skip = a; left = c }) (record { skip = b; left = d })
same_window a b c d e f = λ i. record { skip = e i; left = f i }

pub passed_none : (w : Window) → passed w 0 ≡ w
passed_none w = same_window _ _ _ _ (omega arith) (omega arith)

pub passed_more : (w : Window) (n : ℕ) → passed (passed_one w) n ≡ passed w (suc n)
passed_more w n =
    elim (cases_eq w.skip 0) [
      | inl e ↦
          ap (λ (v : Window). passed v n) (pick_true (eqb w.skip 0) _ _ (eq-eqb w.skip 0 e)) ∙ same_window _ _ _ _ (omega arith) (omega arith)
      | inr e ↦
          ap (λ (v : Window). passed v n) (pick_false (eqb w.skip 0) _ _ (ne_eqb w.skip 0 e)) ∙ same_window _ _ _ _ (omega arith) (omega arith)
    ]

pub inside_append : {X : Type 0} (w : Window) (ls ms : List X) → inside w (ls ++ ms) ≡ inside w ls ++ inside (passed w (length ls)) ms
inside_append {X = X} w [] ms = ap₂ (λ (a : List X) (v : Window). a ++ inside v ms) (sym (nothing w.left w.skip)) (sym (passed_none w))
  where
    nothing : (left skip : ℕ) → ◌≡◌ {A = List X} (take left (drop skip [])) []
    nothing zero zero = refl
    nothing zero (suc skip) = refl
    nothing (suc left) zero = refl
    nothing (suc left) (suc skip) = refl
inside_append {X = X} w (l ∷ ls) ms =
    inside_one w l (ls ++ ms)
    ∙ ap (λ (ys : List X). pick (is_inside w) (l ∷ []) [] ++ ys) (inside_append (passed_one w) ls ms)
    ∙ sym (append_assoc (pick (is_inside w) (l ∷ []) []) (inside (passed_one w) ls) (inside (passed (passed_one w) (length ls)) ms))
    ∙ ap₂ (λ (a : List X) (v : Window). a ++ inside v ms) (sym (inside_one w l ls)) (passed_more w (length ls))

-- behind the last line that it lets through nothing comes
pub inside_none : {X : Type 0} (w : Window) (ls : List X) → w.left ≡ 0 → inside w ls ≡ []
inside_none w ls e = ap (λ (n : ℕ). take n (drop w.skip ls)) e

pub part_nil : (part : Part) (g : Looks) → part_rows part g [] ≡ []
unfolding letters_of notes_of
part_nil Lines g = refl
part_nil Notes g = refl

nothing_inside : {X : Type 0} (left skip : ℕ) → ◌≡◌ {A = List X} (take left (drop skip [])) []
nothing_inside zero zero = refl
nothing_inside zero (suc skip) = refl
nothing_inside (suc left) zero = refl
nothing_inside (suc left) (suc skip) = refl

-- where no lines are left
pub part_none : (part : Part) (g : Looks) (w : Window) → part_rows part g (inside w []) ≡ []
part_none part g w = ap (part_rows part g) (nothing_inside w.left w.skip) ∙ part_nil part g
