-- Each call as what it asks for, or as nothing, and what comes of it.
use Rattle.std.proofs.Common.{◌≡◌, ℕ, ◌<◌, ◌≤◌, Bool, true, false, ltb, List, length, Ok, Err, Result, refl, ap, sym, ◌∙◌, arith, lit<, Bor}
use Rattle.std.specs.Result.{IsErrAnd}
use Rattle.std.proofs.lemmas.Bool.{le-leb, lt-leb, lt-ltb, le-ltb}
use Rattle.std.proofs.lemmas.Result.{err_from_is_err_and}
use Rattle.meaning.specs.Text.{pick, Tokens, all_written}
use Rattle.meaning.specs.Calls
use Rattle.meaning.specs.Calls.{good, size}
use Rattle.wire.specs.Answers.{answer_of, answer_form, outcome}
use Rattle.wire.specs.Bytes.{over, answer_bytes, tokens_of}
use Rattle.wire.specs.Reads.{Whole}
use Rattle.wire.specs.Stage.{stage_tokens, stage_calls}
use Rattle.wire.specs.declared.answer.Answer.{Answer}
use Rattle.wire.specs.declared.refusal.Refusal.{Refusal}
use Rattle.wire.specs.declared.refusal.Refusal.TheVariants.{Unfit}
use Rattle.store.specs.Kept.{is_open}
use Rattle.store.specs.Opened.{rest_of}
use Rattle.store.specs.Changes
use Rattle.store.specs.Changes.{put_edit, put_in_edit, Changes}
use Rattle.store.specs.Edits.{edit_by}
use Rattle.store.specs.declared.changes.Content.{Content}
use Rattle.store.specs.declared.changes.Edit.{Edit}
use Rattle.store.specs.declared.changes.Edit.TheVariants as Edits
use Rattle.machine.specs.Setter.{to_edit, to_show, to_find, unfit, bulk_of, wish, told_of}
use Rattle.session.specs.Answering.{memory_in, Measured, IsUnfit, Wished, said, Performs}
use Rattle.session.specs.declared.answering.Wish.{Wish}
use Rattle.session.specs.declared.answering.Wish.TheVariants as Wishes
use Rattle.session.proofs.Cuts.{at_whole}
use Rattle.session.proofs.Performed.{Makes, refused_unfit, performed}

-- a call with tokens asks for a change, if they are good
pub record Asks (make : Tokens → Calls.Call) (change : Content → Edit) (by : List ℕ → ℕ → ℕ → List ℕ → Changes.Edit) : Type 0 where
  pub asked : (ts : Tokens) (b : Bool) → good stage_tokens ts 16 ≡ b → (xs : List ℕ) → wish xs (make ts) ≡ pick b (to_edit (by (all_written ts) (size ts) (bulk_of ts) xs)) unfit
  pub same : (new : Content) (xs : List ℕ) → edit_by (change new) xs ≡ by new.bytes.now new.size new.bulk xs

pub put_asks : (k : ℕ) → Asks (Calls.put k) (Edits.Put k) (put_edit k)
unfolding stage_calls Calls.call_number Calls.good_fields
put_asks k =
    record {
      asked = λ ts b e xs. ap (λ x. pick x (to_edit (put_edit k (all_written ts) (size ts) (bulk_of ts) xs)) unfit) e;
      same = λ new xs. refl;
    }

pub put_in_asks : (k : ℕ) → Asks (Calls.put_in k) (Edits.PutIn k) (λ bs n b xs. put_in_edit k bs n b)
unfolding stage_calls Calls.call_number Calls.good_fields
put_in_asks k =
    record {
      asked = λ ts b e xs. ap (λ x. pick x (to_edit (put_in_edit k (all_written ts) (size ts) (bulk_of ts))) unfit) e;
      same = λ new xs. refl;
    }

module _ {make : Tokens → Calls.Call} {change : Content → Edit} {by : List ℕ → ℕ → ℕ → List ℕ → Changes.Edit} (asks : Asks make change by) (part : Bor (List ℕ)) where
  pub good_wished : (new : Content) → Whole part → Measured part.now new → Wished (make (tokens_of part.now)) (Ok (Wishes.Edit (change new)))
  good_wished new whole held =
      let same_bytes : all_written (tokens_of part.now) ≡ new.bytes.now = sym (held.bytes ∙ whole) in
      record {
        value = λ xs.
            asks.asked (tokens_of part.now) true held.fit xs
            ∙ ap to_edit (rw (same_bytes, ← held.size, ← held.bulk) refl ∙ sym (asks.same new xs));
        few = tt;
        refusal = tt;
      }

  pub unfit_wished : (why : Refusal) (r : Result Wish Refusal) → IsUnfit part.now why → IsErrAnd r (λ e. e ≡ why) → Wished (make (tokens_of part.now)) r
  unfit_wished why r held so =
      let p = err_from_is_err_and r so in
      rw (p.1, p.2) (record { value = asks.asked (tokens_of part.now) false held.fit; few = tt; refusal = held.told })

pub cut_wished : (k : ℕ) → Wished (Calls.cut k) (Ok (Wishes.Edit (Edits.Cut k)))
unfolding stage_calls Calls.call_number Calls.good_fields
cut_wished k = record { value = λ xs. refl; few = tt; refusal = tt }

-- a definition is nothing that the stage can do
pub define_wished : (k : ℕ) (ts : Tokens) → Wished (Calls.define k ts) (Err Unfit)
unfolding stage_calls Calls.call_number Calls.good_fields
define_wished k ts = record { value = λ xs. refl; few = tt; refusal = refl }

pub show_wished : (k r n : ℕ) → n ≤ 8 → Wished (Calls.show k r n) (Ok (Wishes.Show (record { page = k; row = r; count = n })))
unfolding stage_calls Calls.call_number Calls.good_fields
show_wished k r n l = record { value = λ xs. ap (λ x. pick x (to_show k r n) unfit) (le-leb n 8 l); few = l; refusal = tt }

pub show_unfit : (k r n : ℕ) → 8 < n → Wished (Calls.show k r n) (Err Unfit)
unfolding stage_calls Calls.call_number Calls.good_fields
show_unfit k r n l = record { value = λ xs. ap (λ x. pick x (to_show k r n) unfit) (lt-leb n 8 l); few = tt; refusal = refl }

pub find_wished : (q : ℕ) → q ≤ 255 → Wished (Calls.where_is q) (Ok Wishes.Find)
unfolding stage_calls Calls.call_number Calls.good_fields
find_wished q l = record { value = λ xs. ap (λ x. pick x to_find unfit) (lt-ltb q 256 (omega arith)); few = tt; refusal = tt }

pub find_unfit : (q : ℕ) → 255 < q → Wished (Calls.where_is q) (Err Unfit)
unfolding stage_calls Calls.call_number Calls.good_fields
find_unfit q l = record { value = λ xs. ap (λ x. pick x to_find unfit) (le-ltb q 256 (omega arith)); few = tt; refusal = refl }

pub count_wished : Wished Calls.how_many (Ok Wishes.Count)
unfolding stage_calls Calls.call_number Calls.good_fields
count_wished = record { value = λ xs. refl; few = tt; refusal = tt }

-- a change that is made, or a call that asks for none
one_or_none : (b : Bool) → pick b 1 0 ≤ 1
one_or_none true = omega arith
one_or_none false = omega arith

few_go : (edit : Edit) (rs : List ℕ) → (edit_by edit rs).gone ≤ 1
few_go (Edits.Put k new) rs = one_or_none _
few_go (Edits.PutIn k new) rs = omega arith
few_go (Edits.Cut k) rs = omega arith

few_come : (edit : Edit) (rs : List ℕ) → (edit_by edit rs).come ≤ 1
few_come (Edits.Put k new) rs = omega arith
few_come (Edits.PutIn k new) rs = omega arith
few_come (Edits.Cut k) rs = omega arith

module _ (ts rs : List ℕ) (c : Calls.Call) where
  same_edit : (edit : Edit) → is_open (length ts) rs ≡ true → edit_by edit (rest_of (memory_in ts rs)) ≡ edit_by edit rs
  same_edit (Edits.Put k new) o = ap (λ x. record { at = k; gone = pick (ltb k x) 1 0; come = 1; bytes = new.bytes.now; size = new.size; bulk = new.bulk }) (at_whole ts rs o 4 (lit< tt))
  same_edit (Edits.PutIn k new) o = refl
  same_edit (Edits.Cut k) o = refl

  -- an edit is answered whether it was made or refused
  told_outcome : (r : Result (Unit {0}) Refusal) → answer_of (outcome r) ≡ told_of r
  told_outcome (Ok u) = refl
  told_outcome (Err why) = refl

  pub edit_made :
      {ts' rs' : List ℕ} {edit : Edit} {r : Result (Unit {0}) Refusal} {a : Answer} → Wished c (Ok (Wishes.Edit edit)) → Changes (edit_by edit rs) ts rs ts' rs' r → a ≡ outcome r →
      Makes ts rs c ts' rs' (answer_of a)
  edit_made {ts'} {rs'} {edit} {r} {a} w ch answer =
      rw (answer, told_outcome r) (performed ts rs ts' rs' c (edit_by edit rs) (edit_by edit) r w.value (same_edit edit) (few_go edit rs) (few_come edit rs) ch)

  -- an answer that is written
  pub written :
      {ts' rs' out out' : List ℕ} (a : Answer) {n : ℕ} → Makes ts rs c ts' rs' (answer_of a) → n ≡ length (answer_form a) → out' ≡ over (answer_form a) out → Performs ts rs c out ts' rs' out' (Ok n)
  written {ts'} {rs'} {out} {out'} a {n} made long after =
      let form : answer_form a ≡ answer_bytes (said ts rs c) = ap answer_bytes made.value in
      record { told = (long ∙ ap length form, after ∙ ap (λ (xs : List ℕ). over xs out) form); tokens = made.tokens; rest = made.rest }

  -- a refusal that is still to be written
  pub unwritten :
      {ts' rs' out : List ℕ} (why : Refusal) {r : Result ℕ Refusal} → Makes ts rs c ts' rs' (told_of (Err why)) → IsErrAnd r (λ e. e ≡ why) → Performs ts rs c out ts' rs' out r
  unwritten {ts'} {rs'} {out} why {r} made so =
      let p = err_from_is_err_and r so in
      rw (p.1, p.2) (record { told = (sym made.value, refl); tokens = made.tokens; rest = made.rest })

  pub unfit_made : {why : Refusal} → Wished c (Err why) → Makes ts rs c ts rs (told_of (Err why))
  unfit_made w = rw w.refusal (refused_unfit ts rs c w.value)
