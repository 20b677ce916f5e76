-- How far the lines of a file have come.
--   begins_book, passed_over   after a refused opening no line counts but one that begins a book
--   entered, entered_if        what an entry adds to what has been read, and what it asks for; nothing where there is none
--   limits_at, widths_at, width_at, rows_at   the same for each kind of entry
--   called                     what a call asks for
--   read_of                    the same for the bytes of a line
--   step_of, state_after       what a line asks for, if it asks for anything, and what has been read then; a fault changes nothing
--   Says                       what the code gives, where memory may fail
use Rattle.std.specs.Prelude.{◌≡◌, ℕ, Bool, false, cond, not, ◌⊎◌, List, Some, None, Ok, Err, vec_items, codes, Option, Result}
use Rattle.std.specs.Option.{option_map}
use Rattle.std.specs.Result.{result_map_both}
use Rattle.std.specs.Str.{bytes_eq}
use Rattle.store.specs.declared.opening.Limits.{Limits}
use Rattle.store.specs.declared.opening.Opening.{Opening}
use Rattle.notation.specs.Steps.{then}
use Rattle.text.specs.declared.call.Question.{Question}
use Rattle.text.specs.declared.call.Verb.{Verb}
use Rattle.text.specs.declared.entry.Entry.{Entry}
use Rattle.text.specs.declared.entry.Entry.TheVariants as entry
use Rattle.text.specs.declared.fault.Fault.{Fault}
use Rattle.text.specs.declared.fault.Fault.TheVariants.{Unknown, OutOfPlace, NoMemory}
use Rattle.text.specs.declared.reader.State.{State}
use Rattle.text.specs.declared.reader.State.TheVariants.{Start, AfterLimits, AfterWidths, AfterWidth, Opened, Refused}
use Rattle.text.specs.declared.reader.Step.{Step}
use Rattle.text.specs.declared.reader.Step.TheVariants.{Open, Call}
use Rattle.text.specs.Calls.{question_of, verb_of, call_of}
use Rattle.text.specs.Words.{first_word, behind_word}
use Rattle.text.specs.Entries.{entry_of}

unfoldable pub begins_book : List ℕ → Bool
begins_book line = bytes_eq (first_word line) (codes "limits")

abbrev pub passed_over : State → List ℕ → Bool
passed_over Start line = false
passed_over (AfterLimits l) line = false
passed_over (AfterWidths l ws) line = false
passed_over (AfterWidth l ws w) line = false
passed_over Opened line = false
passed_over Refused line = not (begins_book line)

-- what a line asks for
pub data Said : Type 0 where
  opens : Opening → Said
  asks : Question → List ℕ → Said  -- a call, as bytes

abbrev pub said : Step → Said
said (Open o) = opens o
said (Call q v) = asks q (vec_items v)

abbrev pub both_said : Result (State × Option Step) Fault → Result (State × Option Said) Fault
both_said r = result_map_both (λ p. (p.0, option_map said p.1)) (λ e. e) r

abbrev pub goes_on : State → Result (State × Option Said) Fault
goes_on s = Ok (s, None)

-- limits begin a book, and not in the middle of another's four lines
abbrev pub limits_at : State → Limits → Result (State × Option Said) Fault
limits_at Start l = goes_on (AfterLimits l)
limits_at (AfterLimits k) l = Err OutOfPlace
limits_at (AfterWidths k ws) l = Err OutOfPlace
limits_at (AfterWidth k ws w) l = Err OutOfPlace
limits_at Opened l = goes_on (AfterLimits l)
limits_at Refused l = goes_on (AfterLimits l)

abbrev pub widths_at : State → List ℕ → Result (State × Option Said) Fault
widths_at Start ws = Err OutOfPlace
widths_at (AfterLimits l) ws = goes_on (AfterWidths l ws)
widths_at (AfterWidths l vs) ws = Err OutOfPlace
widths_at (AfterWidth l vs w) ws = Err OutOfPlace
widths_at Opened ws = Err Unknown
widths_at Refused ws = Err OutOfPlace

abbrev pub width_at : State → ℕ → Result (State × Option Said) Fault
width_at Start w = Err OutOfPlace
width_at (AfterLimits l) w = Err OutOfPlace
width_at (AfterWidths l ws) w = goes_on (AfterWidth l ws w)
width_at (AfterWidth l ws v) w = Err OutOfPlace
width_at Opened w = Err Unknown
width_at Refused w = Err OutOfPlace

abbrev pub rows_at : State → ℕ → Result (State × Option Said) Fault
rows_at Start n = Err OutOfPlace
rows_at (AfterLimits l) n = Err OutOfPlace
rows_at (AfterWidths l ws) n = Err OutOfPlace
rows_at (AfterWidth l ws w) n = Ok (Opened, Some (opens (record { limits = l; looks = record { widths = ws; width = w; rows = n } })))
rows_at Opened n = Err Unknown
rows_at Refused n = Err OutOfPlace

abbrev pub entered : State → Entry → Result (State × Option Said) Fault
entered s (entry.Limits l) = limits_at s l
entered s (entry.Widths ws) = widths_at s ws
entered s (entry.Width w) = width_at s w
entered s (entry.Rows n) = rows_at s n

abbrev pub entered_if : State → Option Entry → Result (State × Option Said) Fault
entered_if s None = goes_on s
entered_if s (Some e) = entered s e

-- only an opened book is asked anything
abbrev pub called : State → Result (List ℕ) Fault → Result Said Fault
called Start r = Err OutOfPlace
called (AfterLimits l) r = Err OutOfPlace
called (AfterWidths l ws) r = Err OutOfPlace
called (AfterWidth l ws w) r = Err OutOfPlace
called Opened r = then r (λ bs. Ok (asks (question_of bs) bs))
called Refused r = Err OutOfPlace

abbrev pub read_by : State → List ℕ → Option Verb → Result (State × Option Said) Fault
read_by s line None = then (entry_of line) (entered_if s)
read_by s line (Some v) = then (called s (call_of v (behind_word line))) (λ asked. Ok (s, Some asked))

abbrev pub read_of : State → List ℕ → Result (State × Option Said) Fault
read_of s line = cond (passed_over s line) (goes_on s) (read_by s line (verb_of (first_word line)))

abbrev pub step_of : State → List ℕ → Result (Option Said) Fault
step_of s line = then (read_of s line) (λ p. Ok p.1)

abbrev pub state_in : State → Result (State × Option Said) Fault → State
state_in s (Ok p) = p.0
state_in s (Err e) = s

abbrev pub state_after : State → List ℕ → State
state_after s line = state_in s (read_of s line)

-- what the code gives: memory may fail where there is a call
abbrev pub Says : {A B : Type 0} → (A → B) → Result A Fault → Result B Fault → Type 0
Says meaning r told = (r ≡ Err NoMemory) ⊎ (result_map_both meaning (λ e. e) r ≡ told)
