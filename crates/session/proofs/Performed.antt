-- What is done with a call on lent slices is done by the machine.
--   Makes   what a call is answered, and what it leaves in both slices
use Rattle.std.proofs.Common.{◌≡◌, ℕ, ◌+◌, ◌≤◌, Bool, true, false, cond, leb, List, [], length, get_or, is_ok, Err, Result, sym, refl, ap, ◌∙◌, ap₂}
use Rattle.std.proofs.lemmas.Bool.{leb-true, both_ways}
use Rattle.meaning.specs.Text.{pick}
use Rattle.meaning.specs.Calls.{Call, Answer, refused}
use Rattle.meaning.specs.Promise.{Memory}
use Rattle.meaning.proofs.Picks.{pick_true, pick_false, pick_same}
use Rattle.wire.specs.Bytes.{over}
use Rattle.wire.specs.declared.refusal.Refusal.{Refusal}
use Rattle.wire.specs.declared.refusal.Refusal.TheVariants.{BadOpening}
use Rattle.store.specs.Opened.{tokens_asked, kept_asked, words_asked, rest_asked, rest_of}
use Rattle.store.specs.Kept.{is_open}
use Rattle.store.specs.Changes.{Edit, has_room, editing, edited_tokens, edited_rest, Changes}
use Rattle.std.proofs.Math.Seq.{take-add}
use Rattle.machine.specs.Setter.{to_edit, unfit, wish, told_of, says_to, left_by_wish, says, next}
use Rattle.session.specs.Answering.{limits_in, memory_in, unopened, said, left}
use Rattle.session.proofs.Cuts.{decided, over_front, editing_cut, tokens_cut, rest_cut}

pub record Makes (ts rs : List ℕ) (c : Call) (ts' rs' : List ℕ) (a : Answer) : Type 0 where
  pub value : a ≡ said ts rs c
  pub tokens : ts' ≡ left ts rs c (λ m. m.tokens) ts
  pub rest : rs' ≡ left ts rs c rest_of rs

-- memory that no call changes
pub same_tokens : (ts rs : List ℕ) → over (memory_in ts rs).tokens ts ≡ ts
same_tokens ts rs = over_front (tokens_asked (limits_in rs)) ts

pub same_rest : (ts rs : List ℕ) → over (rest_of (memory_in ts rs)) rs ≡ rs
same_rest ts rs =
    ap (λ xs. over xs rs) (sym (take-add (kept_asked (limits_in rs)) (words_asked (limits_in rs)) rs)) ∙ over_front (rest_asked (limits_in rs)) rs

-- a call that asks for nothing is refused by 2, whatever memory is
pub refused_unfit : (ts rs : List ℕ) (c : Call) → ((xs : List ℕ) → wish xs c ≡ unfit) → Makes ts rs c ts rs (refused 2 0)
unfolding says next
refused_unfit ts rs c none =
    let w = none (rest_of (memory_in ts rs)) in
    record {
      value =
          sym (ap₂ (λ a b. pick (is_open (length ts) rs) (says_to a (memory_in ts rs)) (unopened b)) w (none []) ∙ pick_same (is_open (length ts) rs) (refused 2 0));
      tokens = sym (ap (λ a. pick (is_open (length ts) rs) (over (left_by_wish a (memory_in ts rs)).tokens ts) ts) w ∙ (ap (λ x. pick (is_open (length ts) rs) x ts) (same_tokens ts rs) ∙ pick_same (is_open (length ts) rs) ts));
      rest = sym (ap (λ a. pick (is_open (length ts) rs) (over (rest_of (left_by_wish a (memory_in ts rs))) rs) rs) w ∙ (ap (λ x. pick (is_open (length ts) rs) x rs) (same_rest ts rs) ∙ pick_same (is_open (length ts) rs) rs));
    }

-- an edit that is allowed has what it needs
allowed_parts : (o t r : Bool) (e : Edit) → is_ok (decided e o t r) ≡ true → (t ≡ true) × (r ≡ true)
allowed_parts true true true e h = (refl, refl)
allowed_parts true true false e h = absurd (both_ways false refl h)
allowed_parts true false r e h = absurd (both_ways false refl h)
allowed_parts false t r e h = absurd (both_ways false refl h)

module _ (ts rs ts' rs' : List ℕ) (c : Call) (e : Edit) (f : List ℕ → Edit) (r : Result (Unit {0}) Refusal) where
  closed_performs : is_open (length ts) rs ≡ false → ((xs : List ℕ) → wish xs c ≡ to_edit (f xs)) → Changes e ts rs ts' rs' r → Makes ts rs c ts' rs' (told_of r)
  unfolding says next
  closed_performs shut w ch =
      let refusal : r ≡ Err BadOpening = ch.value ∙ pick_false (is_open (length ts) rs) _ (Err BadOpening) shut in
      record {
        value = ap told_of refusal ∙ sym (pick_false (is_open (length ts) rs) _ (unopened (wish [] c)) shut ∙ ap unopened (w []));
        tokens = ch.tokens ∙ (ap (λ x. cond (is_ok x) (edited_tokens e ts rs) ts) refusal ∙ sym (pick_false (is_open (length ts) rs) _ ts shut));
        rest = ch.rest ∙ (ap (λ x. cond (is_ok x) (edited_rest e rs) rs) refusal ∙ sym (pick_false (is_open (length ts) rs) _ rs shut));
      }

  module _ (open_book : is_open (length ts) rs ≡ true) (gone_few : e.gone ≤ 1) (come_few : e.come ≤ 1) (ch : Changes e ts rs ts' rs' r) (w : wish (rest_of (memory_in ts rs)) c ≡ to_edit e) where
    same : editing e (length (memory_in ts rs).tokens) (rest_of (memory_in ts rs)) ≡ r
    same = editing_cut ts rs open_book e ∙ sym ch.value

    edited_memory : Memory
    edited_memory = record { tokens = edited_tokens e (memory_in ts rs).tokens (memory_in ts rs).kept; words = (memory_in ts rs).words; kept = edited_rest e (memory_in ts rs).kept }

    left_memory : next (memory_in ts rs) c ≡ pick (is_ok r) edited_memory (memory_in ts rs)
    unfolding next edited_memory
    left_memory = ap (λ x. left_by_wish x (memory_in ts rs)) w ∙ ap (λ x. pick (is_ok x) edited_memory (memory_in ts rs)) same

    allowed : is_ok r ≡ true → (e.at + e.gone ≤ get_or rs 4 0) × (has_room e rs ≡ true)
    allowed ok =
        let (t, room) = allowed_parts (is_open (length ts) rs) (leb (e.at + e.gone) (get_or rs 4 0)) (has_room e rs) e (ap is_ok (sym ch.value) ∙ ok) in
        (leb-true _ _ t, room)

    tokens_left : over (pick (is_ok r) edited_memory (memory_in ts rs)).tokens ts ≡ cond (is_ok r) (edited_tokens e ts rs) ts
    unfolding edited_memory
    tokens_left = go (is_ok r) refl
      where
        go : (b : Bool) → is_ok r ≡ b → over (pick b edited_memory (memory_in ts rs)).tokens ts ≡ cond b (edited_tokens e ts rs) ts
        go true ok = tokens_cut ts rs open_book e (allowed ok).0 (allowed ok).1
        go false ok = same_tokens ts rs

    rest_left : over (rest_of (pick (is_ok r) edited_memory (memory_in ts rs))) rs ≡ cond (is_ok r) (edited_rest e rs) rs
    unfolding edited_memory
    rest_left = go (is_ok r) refl
      where
        go : (b : Bool) → is_ok r ≡ b → over (rest_of (pick b edited_memory (memory_in ts rs))) rs ≡ cond b (edited_rest e rs) rs
        go true ok = rest_cut ts rs open_book e (allowed ok).0 (allowed ok).1 gone_few come_few
        go false ok = same_rest ts rs

    open_performs : Makes ts rs c ts' rs' (told_of r)
    unfolding says
    open_performs =
        record {
          value = sym (pick_true (is_open (length ts) rs) _ (unopened (wish [] c)) open_book ∙ (ap (λ x. says_to x (memory_in ts rs)) w ∙ ap told_of same));
          tokens = ch.tokens ∙ sym (pick_true (is_open (length ts) rs) _ ts open_book ∙ (ap (λ x. over x.tokens ts) left_memory ∙ tokens_left));
          rest = ch.rest ∙ sym (pick_true (is_open (length ts) rs) _ rs open_book ∙ (ap (λ x. over (rest_of x) rs) left_memory ∙ rest_left));
        }

  -- a call that is an edit is answered as the edit that was made
  pub performed :
      ((xs : List ℕ) → wish xs c ≡ to_edit (f xs)) → (is_open (length ts) rs ≡ true → f (rest_of (memory_in ts rs)) ≡ e) → e.gone ≤ 1 → e.come ≤ 1 → Changes e ts rs ts' rs' r → Makes ts rs c ts' rs' (told_of r)
  performed w same gone_few come_few ch = go (is_open (length ts) rs) refl
    where
      go : (b : Bool) → is_open (length ts) rs ≡ b → Makes ts rs c ts' rs' (told_of r)
      go true o = open_performs o gone_few come_few ch (w (rest_of (memory_in ts rs)) ∙ ap to_edit (same o))
      go false o = closed_performs o w ch
