-- The answers of the code, and their form.
--   answer_of     the meaning of an answer of the code
--   answer_form   its bytes
--   outcome       the answer to a call that is made or refused
use Rattle.std.specs.Prelude.{ℕ, List, Ok, Err, Result}
use Rattle.meaning.specs.Calls
use Rattle.wire.specs.Bytes.{answer_bytes}
use Rattle.wire.specs.Refusals.{refusal_number, refusal_place}
use Rattle.wire.specs.declared.refusal.Refusal.{Refusal}
use Rattle.wire.specs.declared.answer.Answer.{Answer}
use Rattle.wire.specs.declared.answer.Answer.TheVariants.{Done, Refused, Numbers}

abbrev pub answer_of : Answer → Calls.Answer
answer_of Done = Calls.done
answer_of (Refused why) = Calls.refused (refusal_number why) (refusal_place why)
answer_of (Numbers a b) = Calls.numbers a b

abbrev pub answer_form : Answer → List ℕ
answer_form a = answer_bytes (answer_of a)

abbrev pub outcome : Result (Unit {0}) Refusal → Answer
outcome (Ok u) = Done
outcome (Err why) = Refused why
