-- What reading a call gives in code.
--   call_of, reading_of   the meaning of a call of the code, and of what reading gave
--   WholeTokens          the tokens of a call are just the form of tokens
--   Reads                 what reading a row of bytes gives
use Rattle.std.specs.Prelude.{◌≡◌, ℕ, List, Ok, Err, Result}
use Rattle.std.specs.Borrow.{Bor}
use Rattle.meaning.specs.Text.{Tokens, all_written}
use Rattle.meaning.specs.Calls
use Rattle.wire.specs.Bytes.{Reading, is_call, stops, with_tokens, tokens_of, reading}
use Rattle.wire.specs.declared.refusal.Unreadable.{Unreadable}
use Rattle.wire.specs.declared.call.Call.{Call}
use Rattle.wire.specs.declared.call.Call.TheVariants.{Put, Cut, Define, Show, WhereIs, HowMany, PutIn}

abbrev pub Whole : Bor (List ℕ) → Type 0
Whole part = part.now ≡ all_written (tokens_of part.now)

abbrev pub tokens_reading : (ℕ → Tokens → Calls.Call) → Result (ℕ × Bor (List ℕ)) Unreadable → Reading
tokens_reading make (Ok p) = is_call (make p.0 (tokens_of p.1.now))
tokens_reading make (Err stop) = stops stop.at

abbrev pub WholeOrNone : Result (ℕ × Bor (List ℕ)) Unreadable → Type 0
WholeOrNone (Ok p) = Whole p.1
WholeOrNone (Err stop) = Unit {0}

pub record ReadsTokens (fields : List ℕ) (r : Result (ℕ × Bor (List ℕ)) Unreadable) : Type 0 where
  pub value : (make : ℕ → Tokens → Calls.Call) → with_tokens make fields ≡ tokens_reading make r
  pub part : WholeOrNone r

abbrev pub call_of : Call → Calls.Call
call_of (Put k part) = Calls.put k (tokens_of part.now)
call_of (Cut k) = Calls.cut k
call_of (Define k part) = Calls.define k (tokens_of part.now)
call_of (Show k r n) = Calls.show k r n
call_of (WhereIs q) = Calls.where_is q
call_of HowMany = Calls.how_many
call_of (PutIn k part) = Calls.put_in k (tokens_of part.now)

abbrev pub WholeTokens : Call → Type 0
WholeTokens (Put k part) = Whole part
WholeTokens (Cut k) = Unit {0}
WholeTokens (Define k part) = Whole part
WholeTokens (Show k r n) = Unit {0}
WholeTokens (WhereIs q) = Unit {0}
WholeTokens HowMany = Unit {0}
WholeTokens (PutIn k part) = Whole part

abbrev pub reading_of : Result Call Unreadable → Reading
reading_of (Ok c) = is_call (call_of c)
reading_of (Err stop) = stops stop.at

abbrev pub WholeIfRead : Result Call Unreadable → Type 0
WholeIfRead (Ok c) = WholeTokens c
WholeIfRead (Err stop) = Unit {0}

pub record Reads (bs : List ℕ) (r : Result Call Unreadable) : Type 0 where
  pub value : reading bs ≡ reading_of r
  pub part : WholeIfRead r
