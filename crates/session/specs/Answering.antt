-- What a call answers and leaves, for all lent slices and all bytes.
--   memory_in   the lent slices, cut to what the header asks for
--   Measured    good tokens with what they count
--   IsUnfit     the refusal of tokens that are not good
--   Wished      what a call asks for, or that it asks for nothing
--   said        what a call is answered, by the machine where memory is an open book
--   left        what it leaves in a slice
--   Told        an answer that was written, or a refusal that is still to be written
--   Performs    what carrying out a call gives, and leaves in each slice
--   Answers     what `call` gives back, and leaves in each slice
use Rattle.std.specs.Prelude.{◌≡◌, ℕ, ◌≤◌, min, Bool, true, false, List, [], length, take, drop, Some, None, Ok, Err, Option, Result, IfSome, IfOk, IfErr, nat_le}
use Rattle.meaning.specs.Text.{pick}
use Rattle.meaning.specs.Calls.{Call, Answer, refused, Limits, size, good}
use Rattle.meaning.specs.Promise.{Memory}
use Rattle.wire.specs.Bytes.{over, answer_bytes, Reading, is_call, stops, tokens_of, reading}
use Rattle.wire.specs.Stage.{stage_tokens}
use Rattle.wire.specs.declared.refusal.Refusal.{Refusal}
use Rattle.wire.specs.declared.refusal.Refusal.TheVariants.{Unfit}
use Rattle.store.specs.Opened.{limits_of, tokens_asked, kept_asked, words_asked, rest_of}
use Rattle.store.specs.Kept.{limits_at, is_open}
use Rattle.store.specs.Edits.{edit_by}
use Rattle.store.specs.declared.changes.Content.{Content}
use Rattle.machine.specs.Setter.{to_edit, to_show, to_find, to_count, unfit, bulk_of, wish, told_of, setter}
use Rattle.machine.specs.Setter
use Rattle.session.specs.declared.answering.Wish.{Wish}
use Rattle.session.specs.declared.answering.Wish.TheVariants.{Edit, Show, Find, Count}

abbrev pub limits_in : List ℕ → Limits
limits_in rs = limits_of (limits_at rs)

abbrev pub memory_in : List ℕ → List ℕ → Memory
memory_in ts rs =
    record {
      tokens = take (tokens_asked (limits_in rs)) ts;
      words = take (words_asked (limits_in rs)) (drop (kept_asked (limits_in rs)) rs);
      kept = take (kept_asked (limits_in rs)) rs;
    }

pub record Measured (bs : List ℕ) (new : Content) : Type 0 where
  pub bytes : new.bytes.now ≡ bs
  pub fit : good stage_tokens (tokens_of bs) 16 ≡ true
  pub size : new.size ≡ size (tokens_of bs)
  pub bulk : new.bulk ≡ bulk_of (tokens_of bs)

pub record IsUnfit (bs : List ℕ) (why : Refusal) : Type 0 where
  pub fit : good stage_tokens (tokens_of bs) 16 ≡ false
  pub told : why ≡ Unfit

-- as the machine has it, whatever the numbers are
abbrev pub wish_by : Wish → List ℕ → Setter.Wish
wish_by (Edit edit) rs = to_edit (edit_by edit rs)
wish_by (Show wanted) rs = to_show wanted.page wanted.row wanted.count
wish_by Find rs = to_find
wish_by Count rs = to_count

-- a call that asks for nothing is unfit
abbrev pub wished : Result Wish Refusal → List ℕ → Setter.Wish
wished (Ok w) rs = wish_by w rs
wished (Err why) rs = unfit

-- few enough rows for the answer's bytes
abbrev pub FewRows : Wish → Type 0
FewRows (Edit edit) = Unit {0}
FewRows (Show wanted) = wanted.count ≤ 8
FewRows Find = Unit {0}
FewRows Count = Unit {0}

pub record Wished (c : Call) (r : Result Wish Refusal) : Type 0 where
  pub value : (rs : List ℕ) → wish rs c ≡ wished r rs
  pub few : IfOk r FewRows
  pub refusal : IfErr r (λ why. why ≡ Unfit)

-- of memory that is no open book: a call that is no good comes first, by 2, and then that it is none, by 3
abbrev pub unopened : Setter.Wish → Answer
unopened (to_edit e) = refused 3 2
unopened (to_show k r n) = refused 3 2
unopened to_find = refused 3 2
unopened to_count = refused 3 2
unopened unfit = refused 2 0

abbrev pub said : List ℕ → List ℕ → Call → Answer
said ts rs c = pick (is_open (length ts) rs) (setter.says (memory_in ts rs) c) (unopened (wish [] c))

-- a slice longer than asked for keeps its tail
abbrev pub left : List ℕ → List ℕ → Call → (Memory → List ℕ) → List ℕ → List ℕ
left ts rs c part xs = pick (is_open (length ts) rs) (over (part (setter.next (memory_in ts rs) c)) xs) xs

-- an answer that was written, as so many bytes, or a refusal that is still to be written
abbrev pub Told : Result ℕ Refusal → Answer → List ℕ → List ℕ → Type 0
Told (Ok n) a out out' = (n ≡ length (answer_bytes a)) × (out' ≡ over (answer_bytes a) out)
Told (Err why) a out out' = (a ≡ told_of (Err why)) × (out' ≡ out)

-- what carrying out a call gives, and leaves in both slices and in the answer's bytes
pub record Performs (ts rs : List ℕ) (c : Call) (out ts' rs' out' : List ℕ) (r : Result ℕ Refusal) : Type 0 where
  pub told : Told r (said ts rs c) out out'
  pub tokens : ts' ≡ left ts rs c (λ m. m.tokens) ts
  pub rest : rs' ≡ left ts rs c rest_of rs

-- bytes that are no call are refused by 1 where they cease to be one, and change nothing; a place past four bytes is told as their last
abbrev pub reply_to : List ℕ → List ℕ → Reading → Answer
reply_to ts rs (is_call c) = said ts rs c
reply_to ts rs (stops n) = refused 1 (min n 4294967295)

abbrev pub left_to : List ℕ → List ℕ → Reading → (Memory → List ℕ) → List ℕ → List ℕ
left_to ts rs (is_call c) part xs = left ts rs c part xs
left_to ts rs (stops n) part xs = xs

abbrev pub reply : List ℕ → List ℕ → List ℕ → Answer
reply ts rs bs = reply_to ts rs (reading bs)

pub record Replies (ts rs bs out ts' rs' out' : List ℕ) (r : Result ℕ Refusal) : Type 0 where
  pub told : Told r (reply ts rs bs) out out'
  pub tokens : ts' ≡ left_to ts rs (reading bs) (λ m. m.tokens) ts
  pub rest : rs' ≡ left_to ts rs (reading bs) rest_of rs

abbrev pub has_room : List ℕ → Bool
has_room out = nat_le 163858 (length out)

pub record Answers (ts rs bs out ts' rs' out' : List ℕ) (r : Option ℕ) : Type 0 where
  pub value : r ≡ pick (has_room out) (Some (length (answer_bytes (reply ts rs bs)))) None
  pub after : out' ≡ pick (has_room out) (over (answer_bytes (reply ts rs bs)) out) out
  pub tokens : ts' ≡ pick (has_room out) (left_to ts rs (reading bs) (λ m. m.tokens) ts) ts
  pub rest : rs' ≡ pick (has_room out) (left_to ts rs (reading bs) rest_of rs) rs
  pub within : IfSome r (λ n. n ≤ length out)
