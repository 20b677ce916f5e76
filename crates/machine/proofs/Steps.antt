-- One call, by how it is taken: an edit of the paragraphs, one of a paragraph that is not there, or nothing that the stage can do.
use Rattle.std.proofs.Common.{◌≡◌, ℕ, ◌+◌, ◌<◌, ◌≤◌, Bool, true, false, eqb, leb, List, [], ◌∷◌, ◌++◌, length, get_or, is_ok, Ok, Err, Result, sym, refl, ap, ◌∙◌, inl, inr, arith}
use Rattle.std.specs.List.{AllByRecursion as All}
use Rattle.std.proofs.lemmas.List.{length-append}
use Rattle.std.proofs.ByRecursion.{All-append}
use Rattle.std.proofs.lemmas.Bool.{cases_Bool, le-leb, lt-leb}
use Rattle.meaning.specs.Text.{pick, Tokens}
use Rattle.meaning.specs.Pages.{Looks}
use Rattle.meaning.specs.Calls.{Call, done, refused, Limits, Text, good_call, fits, changed, turned_by, turned, after, told, place, answer}
use Rattle.meaning.specs.Promise.{Memory, GoodLooks, GoodLimits}
use Rattle.meaning.proofs.Picks.{pick_true, pick_false}
use Rattle.wire.specs.declared.refusal.Refusal.{Refusal}
use Rattle.wire.specs.declared.refusal.Refusal.TheVariants.{NoParagraph, TooMuch}
use Rattle.store.specs.Opened.{rest_of}
use Rattle.store.specs.Kept.{is_open}
use Rattle.store.specs.Changes.{Edit, edited_tokens, edited_rest, editing, has_room}
use Rattle.machine.specs.Setter.{to_edit, unfit, wish, told_of, says_to, left_by_wish, says, next}
use Rattle.machine.proofs.Memories.{memory, Tells, rest_tells}
use Rattle.machine.proofs.Edits.{edit_for, room_for, edited_memory}
use Rattle.machine.proofs.Fits.{Good, plain, fitting, fits_room}
use Rattle.machine.proofs.OpenText.{memory_open}

all_parts : {X : Type 0} (P : X → Type 0) (xs ys : List X) → All P (xs ++ ys) → All P xs × All P ys
all_parts P [] ys h = (tt, h)
all_parts P (x ∷ xs) ys h = let parts = all_parts P xs ys h.1 in ((h.0, parts.0), parts.1)

-- paragraphs that fit and are good for the stage
pub record Holds (l : Limits) (ps : List Tokens) : Type 0 where
  pub fit : fits l (plain ps) ≡ true
  pub goods : All Good ps

-- the machine and the meaning go on together
pub record Step (l : Limits) (g : Looks) (ps : List Tokens) (c : Call) : Type 0 where
  pub afterwards : List Tokens
  pub means : after l g (plain ps) c ≡ plain afterwards
  pub leaves : next (memory l g ps) c ≡ memory l g afterwards
  pub answers_so : says (memory l g ps) c ≡ answer l g (plain ps) c
  pub holds : Holds l afterwards

-- what is answered and left, by the number that turns the call away
answer_at : (l : Limits) (g : Looks) (t : Text) (c : Call) (n : ℕ) → turned l g t c ≡ n → answer l g t c ≡ pick (eqb n 0) (told g t c) (refused n (place g t c n))
answer_at l g t c n e = ap (λ m. pick (eqb m 0) (told g t c) (refused m (place g t c m))) e

after_at : (l : Limits) (g : Looks) (t : Text) (c : Call) (n : ℕ) → turned l g t c ≡ n → after l g t c ≡ pick (eqb n 0) (changed t c) t
after_at l g t c n e = ap (λ m. pick (eqb m 0) (changed t c) t) e

-- by what the call asks for, and how that goes
says_by : (m : Memory) (c : Call) (e : Edit) (r : Result (Unit {0}) Refusal) → wish (rest_of m) c ≡ to_edit e → editing e (length m.tokens) (rest_of m) ≡ r → says m c ≡ told_of r
unfolding says
says_by m c e r asks goes = ap (λ o. says_to o m) asks ∙ ap told_of goes

next_by :
    (m : Memory) (c : Call) (e : Edit) (r : Result (Unit {0}) Refusal) → wish (rest_of m) c ≡ to_edit e → editing e (length m.tokens) (rest_of m) ≡ r →
    next m c ≡ pick (is_ok r) (record { tokens = edited_tokens e m.tokens m.kept; words = m.words; kept = edited_rest e m.kept }) m
unfolding next
next_by m c e r asks goes =
    ap (λ o. left_by_wish o m) asks
    ∙ ap (λ (s : Result (Unit {0}) Refusal). pick (is_ok s) (record { tokens = edited_tokens e m.tokens m.kept; words = m.words; kept = edited_rest e m.kept }) m) goes

-- nothing that the stage can do
pub step_unfit :
    (l : Limits) (g : Looks) (ps : List Tokens) (c : Call) → Holds l ps → wish (rest_of (memory l g ps)) c ≡ unfit → good_call l c ≡ false → place g (plain ps) c 2 ≡ 0 → Step l g ps c
unfolding says next
step_unfit l g ps c h asks bad named =
    let m : Memory = memory l g ps in
    let two : turned l g (plain ps) c ≡ 2 = pick_false (good_call l c) _ 2 bad in
    record {
      afterwards = ps;
      means = after_at l g (plain ps) c 2 two;
      leaves = ap (λ o. left_by_wish o m) asks;
      answers_so = ap (λ o. says_to o m) asks ∙ sym (answer_at l g (plain ps) c 2 two ∙ ap (refused 2) named);
      holds = h;
    }

module _ (l : Limits) (g : Looks) (good : GoodLooks g) (small : GoodLimits l) where
  -- a paragraph that is not there
  pub step_missing :
      (ps : List Tokens) (c : Call) (e : Edit) → Holds l ps → wish (rest_of (memory l g ps)) c ≡ to_edit e → length ps < e.at + e.gone → good_call l c ≡ true →
      turned_by g (plain ps) c ≡ 4 → place g (plain ps) c 4 ≡ e.at → Step l g ps c
  step_missing ps c e h asks past can four named =
      let m : Memory = memory l g ps in
      let goes : editing e (length m.tokens) (rest_of m) ≡ Err (NoParagraph e.at) =
      pick_true (is_open (length m.tokens) (rest_of m)) _ _ (memory_open l g ps (fitting l ps h.fit) good small)
      ∙ pick_false (leb (e.at + e.gone) (get_or (rest_of m) 4 0)) _ _ (rw (rest_tells l g ps).paragraphs (lt-leb (e.at + e.gone) (length ps) past)) in
      let by : turned l g (plain ps) c ≡ 4 = pick_true (good_call l c) _ _ can ∙ rw four refl in
      record {
        afterwards = ps;
        means = after_at l g (plain ps) c 4 by;
        leaves = next_by m c e _ asks goes;
        answers_so = says_by m c e _ asks goes ∙ sym (answer_at l g (plain ps) c 4 by ∙ ap (refused 4) named);
        holds = h;
      }

  -- an edit, if there is room
  pub step_edit :
      (ps olds qs news : List Tokens) (c : Call) → Holds l (ps ++ (olds ++ qs)) → wish (rest_of (memory l g (ps ++ (olds ++ qs)))) c ≡ to_edit (edit_for (length ps) olds news) →
      length news ≤ 1 → All Good news → good_call l c ≡ true → turned_by g (plain (ps ++ (olds ++ qs))) c ≡ 0 →
      changed (plain (ps ++ (olds ++ qs))) c ≡ plain (ps ++ (news ++ qs)) → told g (plain (ps ++ (olds ++ qs))) c ≡ done → place g (plain (ps ++ (olds ++ qs))) c 6 ≡ 0 →
      Step l g (ps ++ (olds ++ qs)) c
  step_edit ps olds qs news c h asks one goods can there change telling named =
      elim (cases_Bool fit) [ inl y ↦ taken y | inr n ↦ refusal n ]
    where
      ts : List Tokens
      ts = ps ++ (olds ++ qs)

      us : List Tokens
      us = ps ++ (news ++ qs)

      fit : Bool
      fit = fits l (plain us)

      m : Memory
      m = memory l g ts

      e : Edit
      e = edit_for (length ps) olds news

      goes : editing e (length m.tokens) (rest_of m) ≡ pick fit (Ok tt) (Err TooMuch)
      goes =
          let tells : Tells l g ts (rest_of m) = rest_tells l g ts in
          let room : has_room e (rest_of m) ≡ fit = room_for l g ps olds qs news (rest_of m) tells ∙ fits_room l ps olds qs news one h.fit in
          pick_true (is_open (length m.tokens) (rest_of m)) _ _ (memory_open l g ts (fitting l ts h.fit) good small)
          ∙ (pick_true (leb (e.at + e.gone) (get_or (rest_of m) 4 0)) _ _ (le-leb _ _ (omega (arith, tells.paragraphs, length-append ps (olds ++ qs), length-append olds qs)))
          ∙ ap (λ b. pick b (Ok tt) (Err TooMuch)) room)

      by : turned l g (plain ts) c ≡ pick fit 0 6
      by = pick_true (good_call l c) _ _ can ∙ rw (there, change) refl

      all_good : All Good us
      all_good =
          let parts = all_parts Good ps (olds ++ qs) h.goods in
          All-append Good ps (news ++ qs) parts.0 (All-append Good news qs goods (all_parts Good olds qs parts.1).1)

      taken : fit ≡ true → Step l g ts c
      taken y =
          let ok : editing e (length m.tokens) (rest_of m) ≡ Ok tt = goes ∙ pick_true fit _ _ y in
          let taken_by : turned l g (plain ts) c ≡ 0 = by ∙ pick_true fit 0 6 y in
          let few = fitting l ts h.fit in
          let still = fitting l us y in
          record {
            afterwards = us;
            means = after_at l g (plain ts) c 0 taken_by ∙ change;
            leaves = next_by m c e _ asks ok ∙ edited_memory l g ps olds qs news one few.paragraphs_few few.tokens_few still.paragraphs_few still.tokens_few;
            answers_so = says_by m c e _ asks ok ∙ sym (answer_at l g (plain ts) c 0 taken_by ∙ telling);
            holds = record { fit = y; goods = all_good };
          }

      refusal : fit ≡ false → Step l g ts c
      refusal n =
          let much : editing e (length m.tokens) (rest_of m) ≡ Err TooMuch = goes ∙ pick_false fit _ _ n in
          let six : turned l g (plain ts) c ≡ 6 = by ∙ pick_false fit 0 6 n in
          record {
            afterwards = ts;
            means = after_at l g (plain ts) c 6 six;
            leaves = next_by m c e _ asks much;
            answers_so = says_by m c e _ asks much ∙ sym (answer_at l g (plain ts) c 6 six ∙ ap (refused 6) named);
            holds = h;
          }
