-- What is written.
--   refused_text   of a call refused, by the number of the reason and a place
--   outcome_text   of an outcome
--   fault_text     of what is wrong with a line
--   fault_in       what is wrong with a line where this is wrong with its tokens
use Rattle.std.specs.Prelude.{ℕ, List, ◌++◌, Ok, Err, codes, decimal, Result}
use Rattle.wire.specs.Refusals.{refusal_number, refusal_place}
use Rattle.wire.specs.declared.refusal.Refusal.{Refusal}
use Rattle.notation.specs.Messages as notation
use Rattle.notation.specs.declared.fault.Fault as fault
use Rattle.notation.specs.declared.fault.Fault.TheVariants as noted
use Rattle.text.specs.declared.fault.Fault.{Fault}
use Rattle.text.specs.declared.fault.Fault.TheVariants.{Unknown, OutOfPlace, NumberMissing, NoNumber, TooLarge, NoLetter, NoByte, TooMuch, Notation, NoMemory}

abbrev pub refused_text : ℕ → ℕ → List ℕ
refused_text n p = codes "refused " ++ (decimal n ++ (codes " at " ++ decimal p))

abbrev pub outcome_text : Result (Unit {0}) Refusal → List ℕ
outcome_text (Ok u) = codes "done"
outcome_text (Err e) = refused_text (refusal_number e) (refusal_place e)

abbrev pub fault_text : Fault → List ℕ
fault_text Unknown = codes "no such line"
fault_text OutOfPlace = codes "this line is not due here"
fault_text NumberMissing = codes "a number is missing"
fault_text NoNumber = codes "a number is due here"
fault_text TooLarge = codes "a number is too large"
fault_text NoLetter = codes "a letter, space or others is due here"
fault_text NoByte = codes "two hexadecimal digits are due here"
fault_text TooMuch = codes "the line goes on where it should end"
fault_text (Notation e) = notation.fault_text e
fault_text NoMemory = codes "there is no memory left"

abbrev pub fault_in : fault.Fault → Fault
fault_in noted.NoToken = Notation noted.NoToken
fault_in noted.TooLarge = Notation noted.TooLarge
fault_in noted.OpensNothing = Notation noted.OpensNothing
fault_in noted.ClosesNothing = Notation noted.ClosesNothing
fault_in noted.Unclosed = Notation noted.Unclosed
fault_in noted.NoMemory = NoMemory
