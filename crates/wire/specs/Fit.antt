-- Whether tokens are good for the stage, and how much they count.
--   kind_of, bytes_of            a token's kind, and how many bytes it has
--   measure_of, measure_of_one   what tokens count, and what one of them does
--   together, noted              what two parts count, and what a note with a part in it does
--   Within                       numbers that are at most so large
--   MeasuresOne, Measures        what measuring a token, and tokens, gives
use Rattle.std.specs.Prelude.{◌≡◌, ℕ, ◌+◌, ◌≤◌, List, [], length, IfSome, Some, None, Option}
use Rattle.meaning.specs.Text.{pick, Atom, plainly, flat_one, meant, atoms}
use Rattle.meaning.specs.Text
use Rattle.meaning.specs.Calls.{size, size_of, good, good_one, bulk}
use Rattle.wire.specs.Bytes.{tokens_of}
use Rattle.wire.specs.Cut.{token_of}
use Rattle.wire.specs.Stage.{stage_tokens}
use Rattle.wire.specs.declared.token.Token.{Token}
use Rattle.wire.specs.declared.token.Token.TheVariants.{Letter, Space, Mark, PageOf, Note, Command, Given}
use Rattle.wire.specs.declared.fit.Measure.{Measure}

abbrev pub kind_of : Token → ℕ
kind_of (Letter c) = 0
kind_of Space = 1
kind_of (Mark l) = 2
kind_of (PageOf l) = 3
kind_of (Note part) = 4
kind_of (Command k part) = 5
kind_of Given = 6

-- how many bytes a token has
abbrev pub bytes_of : Token → ℕ
bytes_of (Letter c) = 2
bytes_of Space = 1
bytes_of (Mark l) = 2
bytes_of (PageOf l) = 2
bytes_of (Note part) = 2 + length part.now
bytes_of (Command k part) = 3 + length part.now
bytes_of Given = 1

-- of so many tokens that are these atoms
abbrev pub measure_with : ℕ → List Atom → Measure
measure_with n xs = record { size = n; bulk = bulk xs; plain = length (plainly xs) }

-- of a text without definitions, with page numbers of eight digits, as its fit is told
abbrev pub eight_digits : ℕ → ℕ
eight_digits l = 99999999

abbrev pub measure_of : Text.Tokens → Measure
measure_of ts = measure_with (size ts) (atoms [] eight_digits ts)

abbrev pub measure_of_one : Text.Token → Measure
measure_of_one t = measure_with (size_of t) (flat_one t eight_digits (meant 16 [] eight_digits) [])

abbrev pub together : Measure → Measure → Measure
together a b = record { size = a.size + b.size; bulk = a.bulk + b.bulk; plain = a.plain + b.plain }

abbrev pub noted : Measure → Measure
noted m = record { size = 2 + m.size; bulk = 1 + m.plain; plain = 0 }

pub record Within (n : ℕ) (m : Measure) : Type 0 where
  pub size : m.size ≤ n
  pub bulk : m.bulk ≤ n
  pub plain : m.plain ≤ n

abbrev pub Fits : Measure → Type 0
Fits = Within 18446744073709551615

pub record MeasuresOne (t : Token) (depth : ℕ) (r : Option Measure) : Type 0 where
  pub value : r ≡ pick (good_one stage_tokens (token_of t) depth) (Some (measure_of_one (token_of t))) None
  pub bound : IfSome r (Within (bytes_of t))

pub record Measures (bs : List ℕ) (depth : ℕ) (r : Option Measure) : Type 0 where
  pub value : r ≡ pick (good stage_tokens (tokens_of bs) depth) (Some (measure_of (tokens_of bs))) None
  pub bound : IfSome r (Within (length bs))
