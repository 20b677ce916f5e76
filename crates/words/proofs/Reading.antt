-- Tokens read one by one, each as an atom behind the atoms before it.
use Rattle.std.proofs.Common.{◌≡◌, ℕ, ◌+◌, ◌<◌, ◌≤◌, true, false, leb, ltb, List, [], ◌∷◌, ◌++◌, length, get_or, drop, set, Some, None, Option, sym, refl, ap, ◌∙◌, subst, arith}
use Rattle.std.specs.Option.{option_map}
use Rattle.std.proofs.lemmas.List.{append-nil, append_assoc, length-append, length_push, set_at, drop_more}
use Rattle.std.proofs.lemmas.Bool.{le-leb, lt-leb, lt-ltb, and_from, and_parts}
use Rattle.meaning.specs.Text.{pick, none}
use Rattle.meaning.specs.Promise.{all_below}
use Rattle.meaning.proofs.Picks.{pick_true, pick_false}
use Rattle.wire.specs.Bytes.{tokens_of}
use Rattle.wire.specs.Cut.{token_of, First}
use Rattle.wire.specs.declared.token.Token.{Token}
use Rattle.words.specs.Reads.{before_all, text_letter, is_note, note_text, fitting, Writes, OverIfAny, SmallIfAny}

-- what others follow, if those are some
abbrev pub followed_by : {A : Type 0} → List A → Option (List A) → Option (List A)
followed_by xs None = None
followed_by xs (Some ys) = Some (xs ++ ys)

pub followed_by_none : {A : Type 0} (o : Option (List A)) → o ≡ followed_by [] o
followed_by_none None = refl
followed_by_none (Some ys) = refl

pub followed_by_more : {A : Type 0} (xs : List A) (x : A) (o : Option (List A)) → followed_by xs (before_all (Some x) o) ≡ followed_by (xs ++ (x ∷ [])) o
followed_by_more xs x None = refl
followed_by_more xs x (Some ys) = ap Some (sym (append_assoc xs (x ∷ []) ys))

pub fitting_some : (most : ℕ) (ns : List ℕ) → length ns ≤ most → fitting most (Some ns) ≡ Some ns
fitting_some most ns l = pick_true (leb (length ns) most) (Some ns) None (le-leb (length ns) most l)

pub fitting_none : (most : ℕ) (ns : List ℕ) → most < length ns → fitting most (Some ns) ≡ None
fitting_none most ns l = pick_false (leb (length ns) most) (Some ns) None (lt-leb (length ns) most l)

fitting_more : (most : ℕ) (f : List ℕ) (c : ℕ) (o : Option (List ℕ)) → most ≤ length f → fitting most (followed_by f (before_all (Some c) o)) ≡ None
fitting_more most f c None l = refl
fitting_more most f c (Some ys) l = fitting_none most (f ++ (c ∷ ys)) (omega (arith, length-append f (c ∷ ys)))

below_push : (f : List ℕ) (c : ℕ) → all_below 256 f ≡ true → c < 256 → all_below 256 (f ++ (c ∷ [])) ≡ true
unfolding all_below
below_push [] c p l = and_from (ltb c 256) true (lt-ltb c 256 l) refl
below_push (x ∷ xs) c p l =
    let h = and_parts (ltb x 256) (all_below 256 xs) p in
    and_from (ltb x 256) (all_below 256 (xs ++ (c ∷ []))) h.0 (below_push xs c h.1 l)

-- one number behind others
pub set_more :
    (ns before : List ℕ) (n x : ℕ) (row : List ℕ) → length ns ≡ n → n < length before → row ≡ ns ++ drop n before →
    set row n x ≡ (ns ++ (x ∷ [])) ++ drop (n + 1) before
set_more ns before n x row e l h =
    ap (λ r. set r n x) (h ∙ ap (λ b. ns ++ b) (drop_more before n 0 l)) ∙ set_at ns (get_or before n 0) (drop (n + 1) before) x n e
    ∙ sym (append_assoc ns (x ∷ []) (drop (n + 1) before))

-- what has been read of a note's text, before the rest of it
pub record TextSoFar (bytes rest : List ℕ) (n : ℕ) (before row : List ℕ) : Type 0 where
  pub text : List ℕ
  pub count : length text ≡ n
  pub room : n ≤ length before
  pub small : all_below 256 text ≡ true
  pub holds : row ≡ text ++ drop n before
  pub all : note_text (tokens_of bytes) ≡ followed_by text (note_text (tokens_of rest))

pub no_text_yet : (bytes before : List ℕ) → TextSoFar bytes bytes 0 before before
unfolding all_below
no_text_yet bytes before = record { text = []; count = refl; room = omega arith; small = refl; holds = refl; all = followed_by_none (note_text (tokens_of bytes)) }

abbrev pub WritesText : List ℕ → List ℕ → List ℕ → Option ℕ → Type 0
WritesText bytes before row r = Writes (note_text (tokens_of bytes)) before row r × SmallIfAny (fitting (length before) (note_text (tokens_of bytes)))

module _ (bytes before row : List ℕ) where
  text_from :
      (o : Option (List ℕ)) (r : Option ℕ) → fitting (length before) (note_text (tokens_of bytes)) ≡ o → r ≡ option_map length o → OverIfAny o before row → SmallIfAny o →
      WritesText bytes before row r
  text_from o r e count holds small = (
    record { count = count ∙ ap (option_map length) (sym e); holds = subst (λ (p : Option (List ℕ)). OverIfAny p before row) (sym e) holds },
    subst SmallIfAny (sym e) small,
  )

  text_none : fitting (length before) (note_text (tokens_of bytes)) ≡ None → WritesText bytes before row None
  text_none e = text_from None None e refl tt tt

module _ {bytes rest : List ℕ} {n : ℕ} {before row : List ℕ} (s : TextSoFar bytes rest n before row) where
  pub text_all : tokens_of rest ≡ none → WritesText bytes before row (Some n)
  unfolding note_text
  text_all e =
      text_from bytes before row (Some s.text) (Some n)
      (ap (fitting (length before)) (s.all ∙ ap (λ ts. followed_by s.text (note_text ts)) e ∙ ap Some (append-nil s.text)) ∙ fitting_some (length before) s.text (omega (arith, s.count, s.room)))
      (ap Some (sym s.count))
      (s.holds ∙ ap (λ k. s.text ++ drop k before) (sym s.count))
      s.small

  module _ {t : Token} {behind : List ℕ} (first : First rest t behind) where
    next_is : note_text (tokens_of rest) ≡ pick (is_note (token_of t)) (note_text (tokens_of behind)) (before_all (text_letter (token_of t)) (note_text (tokens_of behind)))
    unfolding note_text
    next_is = ap note_text first.tokens

    -- a note in the note
    pub text_passed : is_note (token_of t) ≡ true → TextSoFar bytes behind n before row
    text_passed e = record { text = s.text; count = s.count; room = s.room; small = s.small; holds = s.holds; all = s.all ∙ ap (followed_by s.text) (next_is ∙ pick_true (is_note (token_of t)) _ _ e) }

    module _ (other : is_note (token_of t) ≡ false) (o : Option ℕ) (e : o ≡ text_letter (token_of t)) where
      found : note_text (tokens_of bytes) ≡ followed_by s.text (before_all o (note_text (tokens_of behind)))
      found = s.all ∙ ap (followed_by s.text) (next_is ∙ pick_false (is_note (token_of t)) _ _ other ∙ ap (λ (p : Option ℕ). before_all p (note_text (tokens_of behind))) (sym e))

    -- a token that has no place in a note
    pub text_refused : is_note (token_of t) ≡ false → None ≡ text_letter (token_of t) → WritesText bytes before row None
    text_refused other e = text_none bytes before row (ap (fitting (length before)) (found other None e))

    module _ {c : ℕ} (other : is_note (token_of t) ≡ false) (e : Some c ≡ text_letter (token_of t)) where
      pub text_no_room : n ≡ length before → WritesText bytes before row None
      text_no_room full = text_none bytes before row (ap (fitting (length before)) (found other (Some c) e) ∙ fitting_more (length before) s.text c (note_text (tokens_of behind)) (omega (arith, s.count)))

      pub text_more : c < 256 → n < length before → TextSoFar bytes behind (n + 1) before (set row n c)
      text_more small l =
          record {
            text = s.text ++ (c ∷ []);
            count = length_push s.text c ∙ ap (λ k. k + 1) s.count;
            room = omega arith;
            small = below_push s.text c s.small small;
            holds = set_more s.text before n c row s.count l s.holds;
            all = found other (Some c) e ∙ followed_by_more s.text c (note_text (tokens_of behind));
          }
