-- How answers are shown, and how they are read from their bytes.
--   answer_text   an answer to a question
--   answer_in     the answer that bytes are
--   shown_text    what is shown of bytes
--   heard         what the code has of an answer
use Rattle.std.specs.Prelude.{ℕ, cond, List, [], ◌∷◌, ◌++◌, length, Some, None, codes, decimal, Option, ◌==◌, slice_index}
use Rattle.std.specs.Option.{option_map}
use Rattle.meaning.specs.Calls.{Answer, done, refused, rows, numbers}
use Rattle.wire.specs.Bytes.{four_at}
use Rattle.text.specs.declared.call.Question.{Question}
use Rattle.text.specs.declared.call.Question.TheVariants as question
use Rattle.text.specs.Messages.{refused_text}
use Rattle.text.specs.Rows.{rows_text, rows_in, rows_of}
use Rattle.text.specs.declared.shown.Heard.{Heard}
use Rattle.text.specs.declared.shown.Heard.TheVariants.{Done, Refused, Rows, Numbers}

-- 1 is at rest
abbrev pub pages_text : ℕ → ℕ → List ℕ
pages_text n rest = codes "pages " ++ (decimal n ++ cond (rest == 1) (codes " at rest") (codes " not at rest"))

abbrev pub no_answer : List ℕ
no_answer = codes "no answer"

abbrev pub numbers_text : Question → ℕ → ℕ → List ℕ
numbers_text question.Change a b = no_answer
numbers_text question.Rows a b = no_answer
numbers_text question.Page a b = codes "page " ++ decimal a
numbers_text question.Pages a b = pages_text a b

abbrev pub answer_text : Question → Answer → List ℕ
answer_text q done = codes "done"
answer_text q (refused n p) = refused_text n p
answer_text q (rows rs) = rows_text rs
answer_text q (numbers a b) = numbers_text q a b

-- an answer that has just so many bytes behind its first
abbrev pub exactly : ℕ → List ℕ → Answer → Option Answer
exactly n bs a = cond (length bs == n) (Some a) None

abbrev pub refused_of : List ℕ → Option Answer
refused_of bs = exactly 5 bs (refused (slice_index bs 0) (four_at bs 1))

abbrev pub numbers_of : List ℕ → Option Answer
numbers_of bs = exactly 8 bs (numbers (four_at bs 0) (four_at bs 4))

unfoldable pub answer_in : List ℕ → Option Answer
answer_in [] = None
answer_in (b ∷ bs) =
    cond (b == 0) (exactly 0 bs done)
    (cond (b == 1) (refused_of bs) (cond (b == 2) (option_map rows (rows_of bs)) (cond (b == 3) (numbers_of bs) None)))

abbrev pub shown_by : Question → Option Answer → List ℕ
shown_by q None = no_answer
shown_by q (Some a) = answer_text q a

abbrev pub shown_text : Question → List ℕ → List ℕ
shown_text q bs = shown_by q (answer_in bs)

-- what the code has of an answer
abbrev pub meant : Heard → Option Answer
meant Done = Some done
meant (Refused r) = Some (refused r.number r.place)
meant (Rows r) = option_map rows (rows_in r.count r.bytes.now)
meant (Numbers a b) = Some (numbers a b)

abbrev pub heard : Option Heard → Option Answer
heard None = None
heard (Some h) = meant h
