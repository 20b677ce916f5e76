-- The words of a text, and what they say as numbers.
--   pieces                     a text cut at each space; a piece has no bytes where two spaces meet
--   words                      the pieces that have bytes
--   first_word, words_behind   the first piece, which has no bytes where a space comes first, and the words behind it
--   behind_word                what stands behind the first piece, from its space on
--   parted                     the first of the words, and what stands behind it
--   within                     a number below a bound, or that it is too large
--   number_of                  what a word says that is to be a number below a bound
--   after_word                 the words behind one that is due
--   ended                      nothing, where no words are left
--   next_number, last_number   such a number that the first of some words says, with the other words, or with no others allowed
--   number_and_text            a number that two bytes can carry, and what stands behind one space after it
use Rattle.std.specs.Prelude.{ℕ, Bool, true, false, cond, not, List, [], ◌∷◌, drop, Some, None, Ok, Err, filter, Option, Result, ◌==◌, nat_lt}
use Rattle.std.specs.List.{prefix_len}
use Rattle.std.specs.Str.{all_ascii_digits, bytes_eq}
use Rattle.notation.specs.Numbers.{value_of}
use Rattle.notation.specs.Steps.{then}
use Rattle.text.specs.declared.fault.Fault.{Fault}
use Rattle.text.specs.declared.fault.Fault.TheVariants.{Unknown, NumberMissing, NoNumber, TooLarge, TooMuch}

abbrev pub is_space : ℕ → Bool
is_space b = b == 32

abbrev pub no_space : ℕ → Bool
no_space b = not (is_space b)

-- a byte in front of the first piece
abbrev pub onto : ℕ → List (List ℕ) → List (List ℕ)
onto b [] = (b ∷ []) ∷ []
onto b (p ∷ ps) = (b ∷ p) ∷ ps

unfoldable pub pieces : List ℕ → List (List ℕ)
pieces [] = [] ∷ []
pieces (b ∷ bs) = cond (is_space b) ([] ∷ pieces bs) (onto b (pieces bs))

abbrev pub first_piece : List (List ℕ) → List ℕ
first_piece [] = []
first_piece (p ∷ ps) = p

abbrev pub other_pieces : List (List ℕ) → List (List ℕ)
other_pieces [] = []
other_pieces (p ∷ ps) = ps

abbrev pub has_bytes : List ℕ → Bool
has_bytes [] = false
has_bytes (b ∷ bs) = true

abbrev pub non_empty : List (List ℕ) → List (List ℕ)
non_empty ps = filter has_bytes ps

unfoldable pub words : List ℕ → List (List ℕ)
words bs = non_empty (pieces bs)

unfoldable pub first_word : List ℕ → List ℕ
first_word bs = first_piece (pieces bs)

unfoldable pub words_behind : List ℕ → List (List ℕ)
words_behind bs = non_empty (other_pieces (pieces bs))

unfoldable pub behind_word : List ℕ → List ℕ
behind_word bs = drop (prefix_len no_space bs) bs

abbrev pub parted_at : List ℕ → Option (List ℕ × List ℕ)
parted_at [] = None
parted_at (b ∷ bs) = Some (first_word (b ∷ bs), behind_word (b ∷ bs))

-- spaces in front don't count
unfoldable pub parted : List ℕ → Option (List ℕ × List ℕ)
parted bs = parted_at (drop (prefix_len is_space bs) bs)

abbrev pub within : ℕ → ℕ → Result ℕ Fault
within bound n = cond (nat_lt n bound) (Ok n) (Err TooLarge)

-- there is at least one digit, since a word has bytes
unfoldable pub number_of : ℕ → List ℕ → Result ℕ Fault
number_of bound w = cond (all_ascii_digits w) (within bound (value_of w)) (Err NoNumber)

abbrev pub next_number : ℕ → List (List ℕ) → Result (ℕ × List (List ℕ)) Fault
next_number bound [] = Err NumberMissing
next_number bound (w ∷ ws) = then (number_of bound w) (λ n. Ok (n, ws))

abbrev pub after_word : List ℕ → List (List ℕ) → Result (List (List ℕ)) Fault
after_word due [] = Err Unknown
after_word due (w ∷ ws) = cond (bytes_eq w due) (Ok ws) (Err Unknown)

abbrev pub ended : List (List ℕ) → Result (Unit {0}) Fault
ended [] = Ok tt
ended (w ∷ ws) = Err TooMuch

-- what four bytes can carry is only too large if nothing stands behind it
abbrev pub last_number : ℕ → List (List ℕ) → Result ℕ Fault
last_number bound ws = then (next_number 4294967296 ws) (λ p. then (ended p.1) (λ _. within bound p.0))

-- a space, or nothing, comes first
abbrev pub behind_space : List ℕ → List ℕ
behind_space [] = []
behind_space (b ∷ bs) = bs

abbrev pub number_first : Option (List ℕ × List ℕ) → Result (ℕ × List ℕ) Fault
number_first None = Err NumberMissing
number_first (Some p) = then (number_of 65536 p.0) (λ k. Ok (k, behind_space p.1))

abbrev pub number_and_text : List ℕ → Result (ℕ × List ℕ) Fault
number_and_text bs = number_first (parted bs)

-- what was read, as a number, and the words of the text that is left
abbrev pub left : {A : Type 0} → (A → ℕ) → Result A Fault → List ℕ → Result (ℕ × List (List ℕ)) Fault
left value (Ok n) rest = Ok (value n, words rest)
left value (Err e) rest = Err e
