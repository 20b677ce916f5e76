-- Text that a loop writes piece by piece.
use Rattle.std.proofs.Common.{◌≡◌, ℕ, true, List, [], ◌++◌, is_ok, Some, None, Option, Result, sym, refl, ap, ◌∙◌, append_assoc, append-nil}
use Rattle.std.specs.Option.{option_map}
use Rattle.std.specs.Fmt.{IsPlainFormatter, HasWritten, WritesOnOk, DisplaysOnOk}
use Rattle.std.specs.declared.fmt.Error.{Error}
use Rattle.std.specs.declared.fmt.Formatter.{Formatter}
use Rattle.std.proofs.Output.{writes_in_calls_nil, has_written_of_eq, has_written_append}

module _ {W : Type 0} (took : W → List ℕ → W → Type 0) where
  -- of a whole text, what is left is still to be written
  pub record PartPut (f g : Formatter W) (whole left : List ℕ) : Type 0 where
    pub done : List ℕ
    pub rest : whole ≡ done ++ left
    pub put : HasWritten took f done g

  abbrev pub Left : Formatter W → Formatter W → List ℕ → List ℕ → Type 0
  Left f g whole left = IsPlainFormatter f → PartPut f g whole left

  pub left_none : (f : Formatter W) (whole : List ℕ) → Left f f whole whole
  left_none f whole plain = record { done = []; rest = refl; put = record { wrote = writes_in_calls_nil took f.writer; plain = plain } }

  pub left_more :
      (f g h : Formatter W) (whole bs left : List ℕ) (r : Result (Unit {0}) Error) → Left f g whole (bs ++ left) → WritesOnOk took g r bs h → is_ok r ≡ true → Left f h whole left
  left_more f g h whole bs left r so prints ok plain =
      let p = so plain in
      record {
        done = p.done ++ bs;
        rest = p.rest ∙ sym (append_assoc p.done bs left);
        put = has_written_append took f p.done g bs h p.put (prints p.put.plain ok);
      }

  pub left_all : (f g : Formatter W) (whole left : List ℕ) → Left f g whole left → left ≡ [] → IsPlainFormatter f → HasWritten took f whole g
  left_all f g whole left so e plain =
      let p = so plain in
      has_written_of_eq took f p.done whole g (sym (p.rest ∙ (ap (λ xs. p.done ++ xs) e ∙ append-nil p.done))) p.put

  -- a text of what may be there
  pub shows_mapped :
      {A : Type 0} (f g : Formatter W) (r : Result (Unit {0}) Error) (text : A → List ℕ) (o : Option A) → ((x : A) → o ≡ Some x → WritesOnOk took f r (text x) g) → DisplaysOnOk took f r (option_map text o) g
  shows_mapped f g r text None k = tt
  shows_mapped f g r text (Some x) k = k x refl
