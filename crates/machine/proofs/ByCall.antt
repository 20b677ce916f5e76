-- Each call of the stage as a step: put, cut and put in are edits, the others are questions, and a definition is nothing that it can do.
use Rattle.std.proofs.Common.{◌≡◌, ℕ, suc, ◌+◌, ◌<◌, ◌≤◌, Bool, true, false, ◌&&◌, eqb, ltb, List, [], ◌∷◌, ◌++◌, length, get_or, take, drop, sym, refl, ap, ◌∙◌, ap₂, subst₂, inl, inr, add-zero, arith}
use Rattle.std.proofs.lemmas.List.{append_assoc, append-nil, length-append, length-take-le, take-append-drop, take_at, drop_at, drop_more, set_at}
use Rattle.std.proofs.lemmas.Bool.{cases_Bool, cases_lt, cases_order, and_parts, both_ways, le-leb, lt-leb, lt-ltb, le-ltb, eq-eqb, ne_eqb, and_left}
use Rattle.meaning.specs.Text.{Tokens, none, all_written}
use Rattle.meaning.specs.Pages.{Looks, book}
use Rattle.meaning.specs.Calls.{Call, put, cut, define, show, where_is, how_many, put_in, Limits, size, sizes, good, call_number, good_fields, good_call, changed, turned_by, told, place}
use Rattle.meaning.specs.Promise.{GoodLooks, GoodLimits}
use Rattle.meaning.proofs.Picks.{pick_true, pick_false}
use Rattle.meaning.proofs.Nameless.{at_rest_nameless, none_marked}
use Rattle.wire.specs.Stage.{stage_tokens, stage_calls}
use Rattle.store.specs.Opened.{limits_of, rest_of}
use Rattle.store.specs.Kept.{limits_at}
use Rattle.store.specs.Changes.{put_edit, put_in_edit, cut_edit}
use Rattle.machine.specs.Setter.{to_edit, unfit, bulk_of, wish_of, wish}
use Rattle.machine.proofs.Memories.{memory, rest_tells}
use Rattle.machine.proofs.Edits.{edit_for}
use Rattle.machine.proofs.Fits.{Good, nameless, plain}
use Rattle.layout.specs.Books.{pages_in}
use Rattle.machine.proofs.InMemory.{pages_there}
use Rattle.machine.proofs.Steps.{Holds, Step, step_unfit, step_missing, step_edit}
use Rattle.machine.proofs.Questions.{step_show, step_find, step_count}

place_of_2 : (g : Looks) (ps : List Tokens) (c : Call) → place g (plain ps) c 2 ≡ 0
unfolding place
place_of_2 g ps (put k ts) = refl
place_of_2 g ps (cut k) = refl
place_of_2 g ps (define k ts) = refl
place_of_2 g ps (show k r n) = refl
place_of_2 g ps (where_is q) = refl
place_of_2 g ps how_many = refl
place_of_2 g ps (put_in k ts) = refl

-- a list at a place within it
record Within (ps : List Tokens) (k : ℕ) : Type 0 where
  before : List Tokens
  one : Tokens
  behind : List Tokens
  is : ps ≡ before ++ (one ∷ behind)
  at : k ≡ length before

within : (ps : List Tokens) (k : ℕ) → k < length ps → Within ps k
within ps k h =
    record {
      before = take k ps;
      one = get_or ps k none;
      behind = drop (k + 1) ps;
      is = sym (take-append-drop k ps) ∙ ap (λ (qs : List Tokens). take k ps ++ qs) (drop_more ps k none h);
      at = sym (length-take-le k ps (omega arith));
    }

-- a call that brings a paragraph, as an edit for a list of one
new_edit : (k n : ℕ) (olds : List Tokens) (ts : Tokens) → n ≡ length olds → record { at = k; gone = n; come = 1; bytes = all_written ts; size = size ts; bulk = bulk_of ts } ≡ edit_for k olds (ts ∷ [])
unfolding sizes
new_edit k n olds ts e = rw (e, append-nil (all_written ts), add-zero (size ts), add-zero (bulk_of ts)) refl

module _ (l : Limits) (g : Looks) (good_looks : GoodLooks g) (small : GoodLimits l) (tokens : l.tokens_can ≡ stage_tokens) (calls : l.calls_can ≡ stage_calls) where
  -- the machine has the stage's tokens and calls
  good_call_same : (rs : List ℕ) (c : Call) → good_call (limits_of (limits_at rs)) c ≡ good_call l c
  unfolding good_fields
  good_call_same rs (put k ts) = rw (tokens, calls) refl
  good_call_same rs (cut k) = rw calls refl
  good_call_same rs (define k ts) = rw (tokens, calls) refl
  good_call_same rs (show k r n) = rw calls refl
  good_call_same rs (where_is q) = rw calls refl
  good_call_same rs how_many = rw calls refl
  good_call_same rs (put_in k ts) = rw (tokens, calls) refl

  wish_good : (rs : List ℕ) (c : Call) → good_call l c ≡ true → wish rs c ≡ wish_of rs c
  wish_good rs c e = pick_true (good_call (limits_of (limits_at rs)) c) _ _ (good_call_same rs c ∙ e)

  wish_bad : (rs : List ℕ) (c : Call) → good_call l c ≡ false → wish rs c ≡ unfit
  wish_bad rs c e = pick_false (good_call (limits_of (limits_at rs)) c) _ _ (good_call_same rs c ∙ e)

  good_tokens : (b : Bool) (ts : Tokens) → (b && good l.tokens_can ts 16) ≡ true → Good ts
  good_tokens b ts e = ap (λ can. good can ts 16) (sym tokens) ∙ (and_parts b (good l.tokens_can ts 16) e).1

  -- put, at a paragraph
  put_within : (ps qs : List Tokens) (p ts : Tokens) → Holds l (ps ++ (p ∷ qs)) → good_call l (put (length ps) ts) ≡ true → Step l g (ps ++ (p ∷ qs)) (put (length ps) ts)
  unfolding good_fields turned_by changed told place
  put_within ps qs p ts h can =
      let all : List Tokens = ps ++ (p ∷ qs) in
      let rs : List ℕ = rest_of (memory l g all) in
      let long : length all ≡ length ps + suc (length qs) = length-append ps (p ∷ qs) in
      let there : ltb (length ps) (get_or rs 4 0) ≡ true = lt-ltb _ _ (omega (arith, (rest_tells l g all).paragraphs)) in
      step_edit l g good_looks small ps (p ∷ []) qs (ts ∷ []) (put (length ps) ts) h
      (wish_good rs (put (length ps) ts) can ∙ ap to_edit (new_edit (length ps) _ (p ∷ []) ts (pick_true _ 1 0 there))) (omega arith) (good_tokens _ ts can, tt) can
      (pick_true _ 0 4 (le-leb _ _ (omega arith)))
      (ap plain (pick_false (eqb (length ps) (length all)) _ _ (ne_eqb _ _ (λ e. omega arith)) ∙ set_at ps p qs ts (length ps) refl)) refl refl

  -- a new paragraph by put, behind the last
  put_behind : (ps : List Tokens) (ts : Tokens) → Holds l (ps ++ []) → good_call l (put (length ps) ts) ≡ true → Step l g (ps ++ []) (put (length ps) ts)
  unfolding good_fields turned_by changed told place
  put_behind ps ts h can =
      let rs : List ℕ = rest_of (memory l g (ps ++ [])) in
      let long : length (ps ++ []) ≡ length ps = ap length (append-nil ps) in
      let past : ltb (length ps) (get_or rs 4 0) ≡ false = le-ltb _ _ (omega (arith, (rest_tells l g (ps ++ [])).paragraphs)) in
      step_edit l g good_looks small ps [] [] (ts ∷ []) (put (length ps) ts) h
      (wish_good rs (put (length ps) ts) can ∙ ap to_edit (new_edit (length ps) _ [] ts (pick_false _ 1 0 past))) (omega arith) (good_tokens _ ts can, tt) can
      (pick_true _ 0 4 (le-leb _ _ (omega arith)))
      (ap plain (pick_true (eqb (length ps) (length (ps ++ []))) _ _ (eq-eqb _ _ (sym long)) ∙ ap (λ (us : List Tokens). us ++ (ts ∷ [])) (append-nil ps))) refl refl

  put_past : (ps : List Tokens) (k : ℕ) (ts : Tokens) → Holds l ps → good_call l (put k ts) ≡ true → length ps < k → Step l g ps (put k ts)
  unfolding turned_by place
  put_past ps k ts h can past =
      let rs : List ℕ = rest_of (memory l g ps) in
      step_missing l g good_looks small ps (put k ts) (put_edit k (all_written ts) (size ts) (bulk_of ts) rs) h (wish_good rs (put k ts) can) (omega arith) can
      (pick_false _ 0 4 (lt-leb k (length ps) past)) refl

  cut_within : (ps qs : List Tokens) (p : Tokens) → Holds l (ps ++ (p ∷ qs)) → good_call l (cut (length ps)) ≡ true → Step l g (ps ++ (p ∷ qs)) (cut (length ps))
  unfolding turned_by changed told place sizes
  cut_within ps qs p h can =
      let all : List Tokens = ps ++ (p ∷ qs) in
      let first : take (length ps) all ≡ ps = take_at ps (p ∷ qs) (length ps) refl in
      let behind : drop (suc (length ps)) all ≡ qs =
      ap (drop (suc (length ps))) (sym (append_assoc ps (p ∷ []) qs)) ∙ drop_at (ps ++ (p ∷ [])) qs (suc (length ps)) (omega (arith, length-append ps (p ∷ []))) in
      step_edit l g good_looks small ps (p ∷ []) qs [] (cut (length ps)) h (wish_good (rest_of (memory l g all)) (cut (length ps)) can) (omega arith) tt can
      (pick_true _ 0 4 (lt-ltb _ _ (omega (arith, length-append ps (p ∷ qs))))) (ap plain (ap₂ ◌++◌ first behind)) refl refl

  cut_past : (ps : List Tokens) (k : ℕ) → Holds l ps → good_call l (cut k) ≡ true → length ps ≤ k → Step l g ps (cut k)
  unfolding turned_by place
  cut_past ps k h can past =
      step_missing l g good_looks small ps (cut k) (cut_edit k) h (wish_good (rest_of (memory l g ps)) (cut k) can) (omega arith) can (pick_false _ 0 4 (le-ltb k (length ps) past)) refl

  put_in_before : (ps qs : List Tokens) (ts : Tokens) → Holds l (ps ++ qs) → good_call l (put_in (length ps) ts) ≡ true → Step l g (ps ++ qs) (put_in (length ps) ts)
  unfolding good_fields turned_by changed told place
  put_in_before ps qs ts h can =
      step_edit l g good_looks small ps [] qs (ts ∷ []) (put_in (length ps) ts) h
      (wish_good (rest_of (memory l g (ps ++ qs))) (put_in (length ps) ts) can ∙ ap to_edit (new_edit (length ps) 0 [] ts refl)) (omega arith) (good_tokens _ ts can, tt) can
      (pick_true _ 0 4 (le-leb _ _ (omega (arith, length-append ps qs))))
      (ap plain (ap₂ (λ (us vs : List Tokens). us ++ (ts ∷ vs)) (take_at ps qs (length ps) refl) (drop_at ps qs (length ps) refl))) refl refl

  put_in_past : (ps : List Tokens) (k : ℕ) (ts : Tokens) → Holds l ps → good_call l (put_in k ts) ≡ true → length ps < k → Step l g ps (put_in k ts)
  unfolding turned_by place
  put_in_past ps k ts h can past =
      step_missing l g good_looks small ps (put_in k ts) (put_in_edit k (all_written ts) (size ts) (bulk_of ts)) h (wish_good (rest_of (memory l g ps)) (put_in k ts) can) (omega arith) can
      (pick_false _ 0 4 (lt-leb k (length ps) past)) refl

  cannot : (c : Call) → stage_calls (call_number c) ≡ false → good_call l c ≡ true → ⊥
  cannot c out = both_ways (good_call l c) (and_left _ (good_fields l c) (ap (λ (can : ℕ → Bool). can (call_number c)) calls ∙ out))

  -- the call of each kind at any paragraph
  put_step : (ps : List Tokens) (k : ℕ) (ts : Tokens) → Holds l ps → good_call l (put k ts) ≡ true → Step l g ps (put k ts)
  put_step ps k ts h can =
      let P : List Tokens → ℕ → Type 0 = λ us j. Holds l us → good_call l (put j ts) ≡ true → Step l g us (put j ts) in
      elim (cases_order k (length ps)) [
        | inl e ↦ subst₂ P (append-nil ps) (sym e) (put_behind ps ts) h can
        | inr o ↦
            elim o [
              | inl lt ↦ let w : Within ps k = within ps k lt in subst₂ P (sym w.is) (sym w.at) (put_within w.before w.behind w.one ts) h can
              | inr gt ↦ put_past ps k ts h can gt
            ]
      ]

  cut_step : (ps : List Tokens) (k : ℕ) → Holds l ps → good_call l (cut k) ≡ true → Step l g ps (cut k)
  cut_step ps k h can =
      let P : List Tokens → ℕ → Type 0 = λ us j. Holds l us → good_call l (cut j) ≡ true → Step l g us (cut j) in
      elim (cases_lt k (length ps)) [
        | inl lt ↦ let w : Within ps k = within ps k lt in subst₂ P (sym w.is) (sym w.at) (cut_within w.before w.behind w.one) h can
        | inr ge ↦ cut_past ps k h can ge
      ]

  put_in_step : (ps : List Tokens) (k : ℕ) (ts : Tokens) → Holds l ps → good_call l (put_in k ts) ≡ true → Step l g ps (put_in k ts)
  put_in_step ps k ts h can =
      let P : List Tokens → ℕ → Type 0 = λ us j. Holds l us → good_call l (put_in j ts) ≡ true → Step l g us (put_in j ts) in
      elim (cases_lt (length ps) k) [
        | inl lt ↦ put_in_past ps k ts h can lt
        | inr ge ↦ subst₂ P (take-append-drop k ps) (length-take-le k ps ge) (put_in_before (take k ps) (drop k ps) ts) h can
      ]

  -- what is made of memory is what the text means
  there : (ps : List Tokens) → Holds l ps → pages_in (memory l g ps).tokens (rest_of (memory l g ps)) ≡ (book g [] ps).made
  there ps h = pages_there l g good_looks ps h.fit h.goods

  step_good : (ps : List Tokens) (c : Call) → Holds l ps → good_call l c ≡ true → Step l g ps c
  unfolding stage_calls call_number
  step_good ps (put k ts) h can = put_step ps k ts h can
  step_good ps (cut k) h can = cut_step ps k h can
  step_good ps (define k ts) h can = absurd (cannot (define k ts) refl can)
  step_good ps (show k r n) h can = step_show l g good_looks small ps h (there ps h) k r n (wish_good (rest_of (memory l g ps)) (show k r n) can) can
  step_good ps (where_is q) h can = step_find l g good_looks small ps h (there ps h) q (none_marked stage_tokens nameless [] g ps h.goods q) (wish_good (rest_of (memory l g ps)) (where_is q) can) can
  step_good ps how_many h can = step_count l g good_looks small ps h (there ps h) (at_rest_nameless stage_tokens nameless [] g ps h.goods) (wish_good (rest_of (memory l g ps)) how_many can) can
  step_good ps (put_in k ts) h can = put_in_step ps k ts h can

  pub step : (ps : List Tokens) (c : Call) → Holds l ps → Step l g ps c
  step ps c h =
      elim (cases_Bool (good_call l c)) [
        | inl can ↦ step_good ps c h can
        | inr cant ↦ step_unfit l g ps c h (wish_bad (rest_of (memory l g ps)) c cant) cant (place_of_2 g ps c)
      ]
