-- The rows of commands filled in by definitions, one after another.
use Rattle.std.proofs.Common.{◌≡◌, ◌≢◌, ℕ, suc, ◌<◌, eqb, List, [], ◌∷◌, sym, refl, ap, ◌∙◌}
use Rattle.std.proofs.lemmas.Bool.{eqb-true, eqb-false}
use Rattle.meaning.specs.Text.{pick, Tokens, none, more, given, Definition, defined}
use Rattle.meaning.specs.Sizes.{form_of, stopped, stopped_at}
use Rattle.meaning.specs.Sizes
use Rattle.meaning.proofs.Picks.{pick_both}
use Rattle.expand.specs.Forms.{row_form, RowsAt}

-- each row has the form of what its command stands for so far, and those that are left make the same of this as all make of none
pub record Filled (most : ℕ) (forms : ℕ → Sizes.Form) (all left : List Definition) (next : List ℕ) : Type 0 where
  pub so_far : ℕ → Tokens
  pub rows : (k : ℕ) → k < 256 → row_form next k ≡ stopped most (form_of (so_far k) forms)
  pub same : (k : ℕ) → defined all k (more given none) ≡ defined left k (so_far k)

module _ (most : ℕ) (forms : ℕ → Sizes.Form) (all : List Definition) (next : List ℕ) where
  pub none_filled : (f : Sizes.Form) → f ≡ stopped most (form_of (more given none) forms) → ((k : ℕ) → k < 256 → row_form next k ≡ f) → Filled most forms all all next
  none_filled f e h = record { so_far = λ k. more given none; rows = λ k l. h k l ∙ e; same = λ k. refl }

  pub one_filled :
      (d : Definition) (left : List Definition) (after : List ℕ) → Filled most forms all (d ∷ left) next → row_form after d.nr ≡ stopped most (form_of d.as_what forms) →
      ((k : ℕ) → k ≢ d.nr → row_form after k ≡ row_form next k) → Filled most forms all left after
  unfolding defined
  one_filled d left after f here others =
      record {
        so_far = λ k. pick (eqb d.nr k) d.as_what (f.so_far k);
        rows =
            λ k l.
            pick_both (eqb d.nr k) d.as_what (f.so_far k) (λ ts. row_form after k ≡ stopped most (form_of ts forms))
            (λ e. ap (row_form after) (sym (eqb-true d.nr k e)) ∙ here)
            (λ e. others k (λ w. eqb-false d.nr k e (sym w)) ∙ f.rows k l);
        same = f.same;
      }

pub all_filled : (most n : ℕ) (ds : List Definition) (next : List ℕ) → Filled most (stopped_at most n ds) ds [] next → RowsAt most (suc n) ds next
unfolding defined stopped_at
all_filled most n ds next f = λ k l. f.rows k l ∙ ap (λ ts. stopped most (form_of ts (stopped_at most n ds))) (sym (f.same k))
