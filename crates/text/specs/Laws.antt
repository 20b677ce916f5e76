-- What holds of lines and of what is shown.
--   AnswersShown   of an answer's bytes, the answer is shown
--   LinesFormed    what a line says in words is the form of a call
use Rattle.std.specs.Prelude.{◌≡◌, ℕ, List, Ok, ◌≢◌}
use Rattle.meaning.specs.Calls.{Call, Answer}
use Rattle.wire.specs.Bytes.{call_bytes, answer_bytes}
use Rattle.text.specs.declared.call.Question.{Question}
use Rattle.text.specs.declared.call.Verb.{Verb}
use Rattle.text.specs.declared.call.Verb.TheVariants as verb
use Rattle.text.specs.Calls.{call_of}
use Rattle.text.specs.Shown.{answer_text, shown_text}

abbrev pub AnswersShown : Type 0
AnswersShown = (q : Question) (a : Answer) → shown_text q (answer_bytes a) ≡ answer_text q a

-- all lines but those in hexadecimal
abbrev pub LinesFormed : Type 0
LinesFormed = (v : Verb) (line bs : List ℕ) → (v ≢ verb.Bytes) → call_of v line ≡ Ok bs → (c : Call) × (bs ≡ call_bytes c)
