-- What holds of the forms of calls and answers.
--   ReadBack      what is written is read back
--   OnlyRead      only a call's own form is read as that call, and its numbers fit their fields
--   StopsRight    reading stops at the first byte that fits no call, or at the end of an unfinished one
--   WrittenOnce   answers are written in one way only
use Rattle.std.specs.Prelude.{◌≡◌, ℕ, suc, ◌≤◌, true, ◌⊎◌, List, ◌++◌, length, take}
use Rattle.meaning.specs.Calls.{Call, Answer}
use Rattle.meaning.specs.Promise.{readable, all_below}
use Rattle.wire.specs.Bytes.{call_bytes, answer_bytes, is_call, stops, reading}

abbrev pub ReadBack : Type 0
ReadBack = (c : Call) → readable c ≡ true → reading (call_bytes c) ≡ is_call c

abbrev pub OnlyRead : Type 0
OnlyRead = (bs : List ℕ) (c : Call) → all_below 256 bs ≡ true → reading bs ≡ is_call c → (bs ≡ call_bytes c) × (readable c ≡ true)

-- some call's form begins so
abbrev pub Begins : List ℕ → Type 0
Begins bs = (c : Call) × (rest : List ℕ) × (readable c ≡ true) × (call_bytes c ≡ bs ++ rest)

pub record Stopped (bs : List ℕ) (n : ℕ) : Type 0 where
  pub within : n ≤ length bs
  pub begun : Begins (take n bs)
  pub no_further : (n ≡ length bs) ⊎ (Begins (take (suc n) bs) → ⊥)

abbrev pub StopsRight : Type 0
StopsRight = (bs : List ℕ) (n : ℕ) → all_below 256 bs ≡ true → reading bs ≡ stops n → Stopped bs n

abbrev pub WrittenOnce : Type 0
WrittenOnce = (a b : Answer) → answer_bytes a ≡ answer_bytes b → a ≡ b
