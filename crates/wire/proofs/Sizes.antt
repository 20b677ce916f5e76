-- Tokens counted one by one.
use Rattle.std.proofs.Common.{◌≡◌, ℕ, suc, ◌+◌, ◌≤◌, Bool, true, ◌&&◌, leb, List, [], length, IfSome, Some, None, Option, Bor, sym, refl, ap, ◌∙◌, ap₂, add_assoc, add-zero, arith}
use Rattle.std.proofs.lemmas.List.{length-append}
use Rattle.std.proofs.lemmas.Bool.{false≢true}
use Rattle.meaning.specs.Text
use Rattle.meaning.specs.Text.{pick, Tokens, none, more, Atom, plainly, flat_one, flat, meant}
use Rattle.meaning.specs.Calls.{size, size_of, good, good_one, bulk}
use Rattle.meaning.proofs.Picks.{pick_true, pick_both, some_picked}
use Rattle.meaning.proofs.Bulks.{bulk_append, length_plainly_append}
use Rattle.wire.specs.Bytes.{tokens_of}
use Rattle.wire.specs.Cut.{token_of, First}
use Rattle.wire.specs.Stage.{stage_tokens}
use Rattle.wire.specs.Fit.{kind_of, bytes_of, eight_digits, measure_of, measure_of_one, together, noted, Within, MeasuresOne, Measures}
use Rattle.wire.specs.declared.fit.Measure.{Measure}
use Rattle.wire.specs.declared.token.Token.{Token}
use Rattle.wire.specs.declared.token.Token.TheVariants.{Letter, Space, Mark, PageOf, Note, Command, Given}

-- a letter or a space
abbrev pub one : Measure
one = record { size = 1; bulk = 1; plain = 1 }

pub letter_measured : (t : Token) (c depth : ℕ) (r : Option Measure) → t ≡ Letter c → r ≡ pick (leb 33 c && leb c 126) (Some one) None → MeasuresOne t depth r
unfolding stage_tokens bulk plainly
letter_measured t c depth r e f =
    rw (e, f) (record {
      value = refl;
      bound =
          pick_both (leb 33 c && leb c 126) (Some one) None (λ o. IfSome o (Within 2))
          (λ _. record { size = omega arith; bulk = omega arith; plain = omega arith }) (λ _. tt);
    })

-- what the stage can do, and is no letter and no note
pub other_measured :
    (t : Token) (depth : ℕ) → stage_tokens (kind_of t) ≡ true → ((c : ℕ) → t ≡ Letter c → ⊥) → ((part : Bor (List ℕ)) → t ≡ Note part → ⊥) → MeasuresOne t depth (Some one)
unfolding stage_tokens bulk plainly
other_measured (Letter c) depth can no_letter no_note = absurd (no_letter c refl)
other_measured Space depth can no_letter no_note = record { value = refl; bound = record { size = omega arith; bulk = omega arith; plain = omega arith } }
other_measured (Mark l) depth can no_letter no_note = absurd (false≢true can)
other_measured (PageOf l) depth can no_letter no_note = absurd (false≢true can)
other_measured (Note part) depth can no_letter no_note = absurd (no_note part refl)
other_measured (Command k part) depth can no_letter no_note = absurd (false≢true can)
other_measured Given depth can no_letter no_note = absurd (false≢true can)

pub note_measured :
    (t : Token) (part : Bor (List ℕ)) (depth d : ℕ) (m n : Measure) → t ≡ Note part → depth ≡ suc d → n ≡ noted m → Measures part.now d (Some m) → MeasuresOne t depth (Some n)
unfolding stage_tokens bulk plainly
note_measured t part depth d m n e f g h =
    let inside : Text.Tokens = tokens_of part.now in
    let q : (good stage_tokens inside d ≡ true) × (m ≡ measure_of inside) = some_picked (good stage_tokens inside d) m (measure_of inside) h.value in
    let long : ℕ = (measure_of inside).plain in
    let foot : 1 + long ≡ suc (long + 0) = omega arith in
    let counted : noted (measure_of inside) ≡ measure_of_one (Text.note inside) = λ i. record { size = 2 + size inside; bulk = foot i; plain = 0 } in
    rw (e, f, g) (record {
      value = ap Some (ap noted q.1 ∙ counted) ∙ sym (pick_true (good stage_tokens inside d) (Some (measure_of_one (Text.note inside))) None q.0);
      bound = record { size = omega arith; bulk = omega arith; plain = omega arith };
    })

-- m, and what the tokens of bytes count, if they are good
abbrev pub counted_tokens : Measure → Tokens → ℕ → Option Measure
counted_tokens m ts d = pick (good stage_tokens ts d) (Some (together m (measure_of ts))) None

abbrev pub counted_on : Measure → List ℕ → ℕ → Option Measure
counted_on m bs d = counted_tokens m (tokens_of bs) d

-- what was counted so far, and that so many bytes are left of all
pub record Counted (bs : List ℕ) (d : ℕ) (m : Measure) (left : List ℕ) : Type 0 where
  pub together : pick (good stage_tokens (tokens_of bs) d) (Some (measure_of (tokens_of bs))) None ≡ counted_on m left d
  pub size : m.size + length left ≤ length bs
  pub bulk : m.bulk + length left ≤ length bs
  pub plain : m.plain + length left ≤ length bs

together_more : (m : Measure) (t : Text.Token) (ts : Tokens) → together m (measure_of (more t ts)) ≡ together (together m (measure_of_one t)) (measure_of ts)
together_more m t ts =
    let does : ℕ → List Atom → List Atom = meant 16 [] eight_digits in
    let first : List Atom = flat_one t eight_digits does [] in
    let others : List Atom = flat ts eight_digits does [] in
    let sizes = sym (add_assoc m.size (size_of t) (size ts)) in
    let bulks = ap (λ n. m.bulk + n) (bulk_append first others) ∙ sym (add_assoc m.bulk (bulk first) (bulk others)) in
    let plains = ap (λ n. m.plain + n) (length_plainly_append first others) ∙ sym (add_assoc m.plain (length (plainly first)) (length (plainly others))) in
    λ i. record { size = sizes i; bulk = bulks i; plain = plains i }

together_none : (m : Measure) → together m (measure_of none) ≡ m
unfolding bulk plainly
together_none m =
    let sizes = add-zero m.size in
    let bulks = add-zero m.bulk in
    let plains = add-zero m.plain in
    λ i. record { size = sizes i; bulk = bulks i; plain = plains i }

long_first : (left : List ℕ) (t : Token) (rest : List ℕ) → First left t rest → length left ≡ bytes_of t + length rest
long_first left (Letter c) rest f = omega (arith, ap length f.form)
long_first left Space rest f = omega (arith, ap length f.form)
long_first left (Mark l) rest f = omega (arith, ap length f.form)
long_first left (PageOf l) rest f = omega (arith, ap length f.form)
long_first left (Note part) rest f = omega (arith, simp length-append at (ap length f.form), ap length f.part)
long_first left (Command k part) rest f = omega (arith, simp length-append at (ap length f.form), ap length f.part)
long_first left Given rest f = omega (arith, ap length f.form)

module _ (bs left : List ℕ) (d : ℕ) (m : Measure) (h : Counted bs d m left) where
  pub counted_more : (t : Token) (rest : List ℕ) (one : Measure) → First left t rest → MeasuresOne t d (Some one) → Counted bs d (together m one) rest
  counted_more t rest one f g =
      let ts : Tokens = tokens_of rest in
      let long = long_first left t rest f in
      let q : (good_one stage_tokens (token_of t) d ≡ true) × (one ≡ measure_of_one (token_of t)) = some_picked (good_one stage_tokens (token_of t) d) one (measure_of_one (token_of t)) g.value in
      record {
        together =
            h.together
            ∙ (ap (λ us. counted_tokens m us d) f.tokens
            ∙ (ap₂ (λ (b : Bool) (n : Measure). pick (b && good stage_tokens ts d) (Some n) None) q.0 (together_more m (token_of t) ts)
            ∙ ap (λ n. counted_tokens (together m n) ts d) (sym q.1)));
        size = omega arith;
        bulk = omega arith;
        plain = omega arith;
      }

  pub counted_all : tokens_of left ≡ none → Measures bs d (Some m)
  counted_all e =
      record {
        value = sym (h.together ∙ (ap (λ us. counted_tokens m us d) e ∙ ap Some (together_none m)));
        bound = record { size = omega arith; bulk = omega arith; plain = omega arith };
      }
