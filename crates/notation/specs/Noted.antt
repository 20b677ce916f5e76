-- What a text says.
--   noted_in     piece by piece, with so many braces open, in so many steps at most
--   noted        a text as the form of its tokens
--   ReadsOnto   what reading a text appends
use Rattle.std.specs.Prelude.{◌≡◌, ℕ, zero, suc, cond, ◌⊎◌, List, [], ◌∷◌, ◌++◌, length, Ok, Err, codes, Result}
use Rattle.std.specs.Str.{bytes_eq}
use Rattle.notation.specs.declared.fault.Fault.{Fault}
use Rattle.notation.specs.declared.fault.Fault.TheVariants.{Unclosed, NoMemory}
use Rattle.notation.specs.declared.piece.Piece.{Piece}
use Rattle.notation.specs.Pieces.{form_of, depth_after, first_piece}
use Rattle.notation.specs.Steps.{then, in_front}

abbrev pub all_closed : ℕ → Result (List ℕ) Fault
all_closed zero = Ok []
all_closed (suc depth) = Err Unclosed

-- a piece, and then what stands behind it, read by go_on
abbrev pub piece_then : (ℕ → List ℕ → Result (List ℕ) Fault) → ℕ → Piece × List ℕ → Result (List ℕ) Fault
piece_then go_on depth p = then (depth_after p.0 depth) (λ n. in_front (form_of p.0) (go_on n p.1))

-- each step takes a byte or more
unfoldable pub noted_in : ℕ → ℕ → List ℕ → Result (List ℕ) Fault
noted_in steps depth [] = all_closed depth
noted_in zero depth (b ∷ bs) = Err Unclosed
noted_in (suc steps) depth (b ∷ bs) = then (first_piece b bs) (piece_then (noted_in steps) depth)

abbrev pub noted_from : ℕ → List ℕ → Result (List ℕ) Fault
noted_from depth bs = noted_in (length bs) depth bs

-- 92 is a backslash
unfoldable pub noted : List ℕ → Result (List ℕ) Fault
noted bs = cond (bytes_eq bs (92 ∷ codes "none")) (Ok []) (noted_from 0 bs)

abbrev pub ReadsOnto : List ℕ → List ℕ → List ℕ → Result (Unit {0}) Fault → Type 0
ReadsOnto text before after (Ok u) = (bs : List ℕ) × (noted text ≡ Ok bs) × (after ≡ before ++ bs)
ReadsOnto text before after (Err e) = (e ≡ NoMemory) ⊎ (noted text ≡ Err e)
