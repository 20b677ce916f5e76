-- What each function for other languages gives back, as one number.
--   refusing                  the number of a refusal: below 0
--   asking_by, asked_number   how much memory is asked for
--   OpensAs                  what opening gives, and leaves in both slices
--   told_number               what an answer is told by
--   AnswersAs                what a call gives, and leaves in each slice
use Rattle.std.specs.Prelude.{◌≡◌, ℕ, ◌+◌, ◌*◌, List, length, ℤ, pos, neg_ℤ, Some, None, Ok, Err, Option, Result, ◌==◌, ◌≢◌}
use Rattle.meaning.specs.Text.{pick}
use Rattle.meaning.specs.Calls.{Answer, done, refused, rows, numbers}
use Rattle.meaning.specs.Calls
use Rattle.wire.specs.Bytes.{answer_bytes}
use Rattle.wire.specs.Refusals.{refusal_number, refusal_place}
use Rattle.wire.specs.declared.refusal.Refusal.{Refusal}
use Rattle.store.specs.Opened.{limits_of, limits_in_range, tokens_asked, rest_asked, opening, Opens}
use Rattle.store.specs.declared.opening.Asked.{Asked}
use Rattle.store.specs.declared.opening.Limits.{Limits}
use Rattle.store.specs.declared.opening.Looks.{Looks}
use Rattle.session.specs.Answering.{reply, has_room, Answers}

-- a refusal's number and its place, below 0
abbrev pub refusing : ℕ → ℕ → ℤ
refusing n p = neg_ℤ (pos (n * 4294967296 + p))

-- what limits ask for, whatever the looks are
abbrev pub asking_by : Limits → Option Asked
asking_by l = pick (limits_in_range l) (Some (record { tokens = tokens_asked (limits_of l); rest = rest_asked (limits_of l) })) None

-- so much of one kind as limits ask for; out of range they are refused as at opening
abbrev pub asked_number : (Calls.Limits → ℕ) → Limits → ℤ
asked_number how_much l = pick (limits_in_range l) (pos (how_much (limits_of l))) (refusing 3 2)

abbrev pub opening_number : Result (Unit {0}) Refusal → ℤ
opening_number (Ok u) = pos 0
opening_number (Err why) = refusing (refusal_number why) (refusal_place why)

-- opening as the session has it, where there are just 95 widths; else it is refused as out of range, and nothing changes
pub record OpensAs (l : Limits) (g : Looks) (ts rs ts' rs' : List ℕ) (n : ℤ) : Type 0 where
  pub value : n ≡ pick (length g.widths == 95) (opening_number (opening l g (length ts) (length rs))) (refusing 3 2)
  pub opens : length g.widths ≡ 95 → Opens l g ts rs ts' rs' (opening l g (length ts) (length rs))
  pub keeps : (length g.widths ≢ 95) → (ts' ≡ ts) × (rs' ≡ rs)

-- a refusal by its number and place, any other answer by how many bytes it has
abbrev pub told_number : Answer → ℤ
told_number done = pos (length (answer_bytes done))
told_number (refused n p) = refusing n p
told_number (rows rs) = pos (length (answer_bytes (rows rs)))
told_number (numbers a b) = pos (length (answer_bytes (numbers a b)))

-- a call as the session answers it; with too little room for an answer 0, and nothing changes
pub record AnswersAs (ts rs bs out ts' rs' out' : List ℕ) (n : ℤ) : Type 0 where
  pub value : n ≡ pick (has_room out) (told_number (reply ts rs bs)) (pos 0)
  pub answers : Answers ts rs bs out ts' rs' out' (pick (has_room out) (Some (length (answer_bytes (reply ts rs bs)))) None)
