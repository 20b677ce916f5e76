-- A text that calls lead to has good paragraphs and definitions; so all answers are the same under looks which agree on the widths from 32 to 126.
use Rattle.std.proofs.Common.{◌≡◌, ℕ, suc, Bool, true, eqb, ltb, List, [], ◌∷◌, length, take, sym, refl, ap, ◌∙◌, ap₂, inl, inr, arith}
use Rattle.std.specs.List.{AllByRecursion as All}
use Rattle.std.proofs.ByRecursion.{All-append, All-push, All-set, All-take, All-drop}
use Rattle.std.proofs.lemmas.Bool.{and_parts, eqb-true, cases_Bool}
use Rattle.meaning.specs.Text.{pick, Tokens, Definition}
use Rattle.meaning.specs.Pages.{Looks, Book, book}
use Rattle.meaning.specs.Calls.{Call, put, cut, define, show, where_is, how_many, put_in, Answer, refused, Limits, Text, good, call_number, good_fields, good_call, without, changed, turned_by, turned, after, told, place, answer, answers, ran, empty}
use Rattle.meaning.proofs.Picks.{pick_both, pick_false}
use Rattle.meaning.proofs.Drawn.{Plain}
use Rattle.meaning.proofs.Tables.{Alike, good_book_same}

abbrev pub GoodTokens : (ℕ → Bool) → Tokens → Type 0
GoodTokens can ts = good can ts 16 ≡ true

abbrev pub GoodDefinition : (ℕ → Bool) → Definition → Type 0
GoodDefinition can d = GoodTokens can d.as_what

pub record GoodText (can : ℕ → Bool) (t : Text) : Type 0 where
  pub good_definitions : All (GoodDefinition can) t.definitions
  pub good_paragraphs : All (GoodTokens can) t.paragraphs

pub empty_good : (can : ℕ → Bool) → GoodText can empty
empty_good can = record { good_definitions = tt; good_paragraphs = tt }

without_good : (can : ℕ → Bool) (k : ℕ) (ds : List Definition) → All (GoodDefinition can) ds → All (GoodDefinition can) (without k ds)
unfolding without
without_good can k [] h = tt
without_good can k (d ∷ ds) h =
    pick_both (eqb d.nr k) _ _ (All (GoodDefinition can)) (λ e. without_good can k ds h.1) (λ e. (h.0, without_good can k ds h.1))

pub changed_good : (l : Limits) (t : Text) (c : Call) → good_fields l c ≡ true → GoodText l.tokens_can t → GoodText l.tokens_can (changed t c)
unfolding changed good_fields
changed_good l t (put k ts) g h =
    let can : ℕ → Bool = l.tokens_can in
    record {
      good_definitions = h.good_definitions;
      good_paragraphs =
          pick_both (eqb k (length t.paragraphs)) _ _ (All (GoodTokens can)) (λ e. All-push (GoodTokens can) t.paragraphs ts h.good_paragraphs g)
          (λ e. All-set (GoodTokens can) t.paragraphs k ts g h.good_paragraphs);
    }
changed_good l t (cut k) g h =
    let P : Tokens → Type 0 = GoodTokens l.tokens_can in
    record {
      good_definitions = h.good_definitions;
      good_paragraphs = All-append P (take k t.paragraphs) _ (All-take P k t.paragraphs h.good_paragraphs) (All-drop P (suc k) t.paragraphs h.good_paragraphs);
    }
changed_good l t (define k ts) g h =
    let P : Definition → Type 0 = GoodDefinition l.tokens_can in
    record {
      good_definitions =
          All-push P (without k t.definitions) _ (without_good l.tokens_can k t.definitions h.good_definitions) (and_parts (ltb k 256) (good l.tokens_can ts 16) g).1;
      good_paragraphs = h.good_paragraphs;
    }
changed_good l t (show k r n) g h = h
changed_good l t (where_is q) g h = h
changed_good l t how_many g h = h
changed_good l t (put_in k ts) g h =
    let P : Tokens → Type 0 = GoodTokens l.tokens_can in
    record {
      good_definitions = h.good_definitions;
      good_paragraphs = All-append P (take k t.paragraphs) _ (All-take P k t.paragraphs h.good_paragraphs) (g, All-drop P k t.paragraphs h.good_paragraphs);
    }

pub taken_good : (l : Limits) (g : Looks) (t : Text) (c : Call) → turned l g t c ≡ 0 → good_call l c ≡ true
taken_good l g t c e =
    elim (cases_Bool (good_call l c)) [ inl yes' ↦ yes' | inr no' ↦ absurd (omega (arith, sym (pick_false (good_call l c) _ 2 no') ∙ e)) ]

pub after_good : (l : Limits) (g : Looks) (t : Text) (c : Call) → GoodText l.tokens_can t → GoodText l.tokens_can (after l g t c)
after_good l g t c h =
    pick_both (eqb (turned l g t c) 0) (changed t c) t (GoodText l.tokens_can)
    (λ e. changed_good l t c (and_parts (l.calls_can (call_number c)) (good_fields l c) (taken_good l g t c (eqb-true (turned l g t c) 0 e))).1 h) (λ e. h)

pub ran_good : (l : Limits) (g : Looks) (t : Text) (cs : List Call) → GoodText l.tokens_can t → GoodText l.tokens_can (ran l g t cs)
unfolding ran
ran_good l g t [] h = h
ran_good l g t (c ∷ cs) h = ran_good l g (after l g t c) cs (after_good l g t c h)

-- what is answered of a text depends on its looks by its book alone
abbrev pub book_of : Looks → Text → Book
book_of g t = book g t.definitions t.paragraphs

turned_by_same : (g h : Looks) (t : Text) (c : Call) → book_of g t ≡ book_of h t → turned_by g t c ≡ turned_by h t c
unfolding turned_by
turned_by_same g h t (put k ts) e = refl
turned_by_same g h t (cut k) e = refl
turned_by_same g h t (define k ts) e = refl
turned_by_same g h t (show k r n) e = rw e
turned_by_same g h t (where_is q) e = refl
turned_by_same g h t how_many e = refl
turned_by_same g h t (put_in k ts) e = refl

told_same : (g h : Looks) (t : Text) (c : Call) → book_of g t ≡ book_of h t → told g t c ≡ told h t c
unfolding told
told_same g h t (put k ts) e = refl
told_same g h t (cut k) e = refl
told_same g h t (define k ts) e = refl
told_same g h t (show k r n) e = rw e
told_same g h t (where_is q) e = rw e
told_same g h t how_many e = rw e
told_same g h t (put_in k ts) e = refl

place_same : (g h : Looks) (t : Text) (c : Call) (n : ℕ) → book_of g t ≡ book_of h t → place g t c n ≡ place h t c n
unfolding place
place_same g h t (put k ts) n e = refl
place_same g h t (cut k) n e = refl
place_same g h t (define k ts) n e = refl
place_same g h t (show k r m) n e = rw e
place_same g h t (where_is q) n e = refl
place_same g h t how_many n e = refl
place_same g h t (put_in k ts) n e = refl

module _ (l : Limits) (g h : Looks) where
  pub turned_same : (t : Text) (c : Call) → book_of g t ≡ book_of h t → turned l g t c ≡ turned l h t c
  turned_same t c e = rw (turned_by_same g h t c e)

  pub after_same : (t : Text) (c : Call) → book_of g t ≡ book_of h t → after l g t c ≡ after l h t c
  after_same t c e = ap (λ (n : ℕ). pick (eqb n 0) (changed t c) t) (turned_same t c e)

  pub answer_same : (t : Text) (c : Call) → book_of g t ≡ book_of h t → answer l g t c ≡ answer l h t c
  answer_same t c e =
      ap₂ (λ (n : ℕ) (a : Answer). pick (eqb n 0) a (refused n (place g t c n))) (turned_same t c e) (told_same g h t c e)
      ∙ ap (λ (n : ℕ). pick (eqb (turned l h t c) 0) (told h t c) (refused (turned l h t c) n)) (place_same g h t c (turned l h t c) e)

module _ (l : Limits) (g h : Looks) (like : Alike Plain g h) where
  pub book_of_same : (t : Text) → GoodText l.tokens_can t → book_of g t ≡ book_of h t
  book_of_same t d = good_book_same g h like l.tokens_can 16 t.definitions t.paragraphs d.good_definitions d.good_paragraphs

  pub answers_same : (t : Text) (cs : List Call) → GoodText l.tokens_can t → answers l g t cs ≡ answers l h t cs
  unfolding answers
  answers_same t [] d = refl
  answers_same t (c ∷ cs) d =
      ap₂ ◌∷◌ (answer_same l g h t c (book_of_same t d))
      (answers_same (after l g t c) cs (after_good l g t c d) ∙ ap (λ (u : Text). answers l h u cs) (after_same l g h t c (book_of_same t d)))

  pub ran_same : (t : Text) (cs : List Call) → GoodText l.tokens_can t → ran l g t cs ≡ ran l h t cs
  unfolding ran
  ran_same t [] d = refl
  ran_same t (c ∷ cs) d = ran_same (after l g t c) cs (after_good l g t c d) ∙ ap (λ (u : Text). ran l h u cs) (after_same l g h t c (book_of_same t d))
