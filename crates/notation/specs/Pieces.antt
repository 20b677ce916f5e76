-- The pieces of a text.
--   form_of       a piece as its bytes
--   depth_after   how many braces are open behind a piece
--   first_piece   the piece that a text begins with, and what stands behind it
--   piece_of      the same of a whole text; None at its end
--   TakesPiece    the same where it is taken from the text; at its end nothing is left, and nothing behind a fault
use Rattle.std.specs.Prelude.{◌≡◌, ℕ, zero, suc, cond, ◌||◌, List, [], ◌∷◌, take, drop, Some, None, Ok, Err, codes, Option, Result, ◌==◌}
use Rattle.std.specs.Str.{bytes_eq}
use Rattle.notation.specs.declared.fault.Fault.{Fault}
use Rattle.notation.specs.declared.fault.Fault.TheVariants.{NoToken, OpensNothing, ClosesNothing}
use Rattle.notation.specs.declared.piece.Piece.{Piece}
use Rattle.notation.specs.declared.piece.Piece.TheVariants.{Letter, Space, Mark, PageOf, Note, Command, Given, Close}
use Rattle.notation.specs.Numbers.{number_to}
use Rattle.notation.specs.Steps.{then}

abbrev pub form_of : Piece → List ℕ
form_of (Letter b) = 0 ∷ (b ∷ [])
form_of Space = 1 ∷ []
form_of (Mark n) = 2 ∷ (n ∷ [])
form_of (PageOf n) = 3 ∷ (n ∷ [])
form_of Note = 4 ∷ []
form_of (Command n) = 5 ∷ (n ∷ [])
form_of Given = 6 ∷ []
form_of Close = 7 ∷ []

abbrev pub closed_once : ℕ → Result ℕ Fault
closed_once zero = Err ClosesNothing
closed_once (suc n) = Ok n

abbrev pub depth_after : Piece → ℕ → Result ℕ Fault
depth_after (Letter b) n = Ok n
depth_after Space n = Ok n
depth_after (Mark m) n = Ok n
depth_after (PageOf m) n = Ok n
depth_after Note n = Ok (suc n)
depth_after (Command m) n = Ok (suc n)
depth_after Given n = Ok n
depth_after Close n = closed_once n

abbrev pub numbered : (ℕ → Piece) → ℕ → List ℕ → Result (Piece × List ℕ) Fault
numbered make end bs = then (number_to end bs) (λ p. Ok (make p.0, p.1))

-- behind a backslash: a word of five letters, or a command's number, with its brace, 123
unfoldable pub worded : List ℕ → Result (Piece × List ℕ) Fault
worded bs =
    cond (bytes_eq (take 5 bs) (codes "note{")) (Ok (Note, drop 5 bs))
    (cond (bytes_eq (take 5 bs) (codes "given")) (Ok (Given, drop 5 bs)) (numbered Command 123 bs))

-- behind a backslash: another or a brace, 92, 123 and 125; m and p, 109 and 112, with a number up to 59; or what is worded
unfoldable pub escaped : List ℕ → Result (Piece × List ℕ) Fault
escaped [] = Err NoToken
escaped (b ∷ bs) =
    cond (b == 92 || (b == 123 || b == 125)) (Ok (Letter b, bs))
    (cond (b == 109) (numbered Mark 59 bs) (cond (b == 112) (numbered PageOf 59 bs) (worded (b ∷ bs))))

-- the first byte, and those behind it
unfoldable pub first_piece : ℕ → List ℕ → Result (Piece × List ℕ) Fault
first_piece b bs =
    cond (b == 32) (Ok (Space, bs))
    (cond (b == 92) (escaped bs)
    (cond (b == 123) (Err OpensNothing)
    (cond (b == 125) (Ok (Close, bs)) (Ok (Letter b, bs)))))

abbrev pub piece_of : List ℕ → Option (Result (Piece × List ℕ) Fault)
piece_of [] = None
piece_of (b ∷ bs) = Some (first_piece b bs)

abbrev pub TakesPiece : List ℕ → Option (Result Piece Fault) → List ℕ → Type 0
TakesPiece bs None rest = (piece_of bs ≡ None) × (rest ≡ bs)
TakesPiece bs (Some (Ok p)) rest = piece_of bs ≡ Some (Ok (p, rest))
TakesPiece bs (Some (Err e)) rest = (piece_of bs ≡ Some (Err e)) × (rest ≡ [])
