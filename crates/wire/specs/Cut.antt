-- Tokens cut off from bytes one by one.
--   extent_of    how far bytes are tokens
--   enclosed_in  what a note or a command holds, and what stands behind its end byte
--   token_of     the token that is meant by one of the code
--   First        what it is to be the first token of bytes
--   BeginsWith   the first token of bytes, if they have one
--   TakesFirst   the same, with what is left then; without a token all is left
use Rattle.std.specs.Prelude.{◌≡◌, ℕ, ◌+◌, ◌-◌, List, [], ◌∷◌, ◌++◌, length, take, drop, Some, None, Option}
use Rattle.std.specs.Borrow.{Bor}
use Rattle.meaning.specs.Text
use Rattle.meaning.specs.Text.{more, none, written, all_written}
use Rattle.wire.specs.Bytes.{Parsed, whole, broken, parsed, tokens_of}
use Rattle.wire.specs.declared.token.Token.{Token}
use Rattle.wire.specs.declared.token.Token.TheVariants.{Letter, Space, Mark, PageOf, Note, Command, Given}
use Rattle.wire.specs.declared.token.Extent.{Extent}
use Rattle.wire.specs.declared.token.Extent.TheVariants.{End, Close, Break}

abbrev pub extent_in : List ℕ → Parsed → Extent
extent_in bs (whole ts []) = End
extent_in bs (whole ts (x ∷ left)) = Close (length bs - length (x ∷ left))
extent_in bs (broken ts left) = Break (length bs - length left)

abbrev pub extent_of : List ℕ → Extent
extent_of bs = extent_in bs (parsed bs)

abbrev pub enclosed_by : List ℕ → Extent → Option (List ℕ × List ℕ)
enclosed_by bs End = None
enclosed_by bs (Close n) = Some (take n bs, drop (n + 1) bs)
enclosed_by bs (Break n) = None

abbrev pub enclosed_in : List ℕ → Option (List ℕ × List ℕ)
enclosed_in bs = enclosed_by bs (extent_of bs)

abbrev pub token_of : Token → Text.Token
token_of (Letter c) = Text.letter c
token_of Space = Text.space
token_of (Mark l) = Text.mark l
token_of (PageOf l) = Text.page_of l
token_of (Note part) = Text.note (tokens_of part.now)
token_of (Command k part) = Text.command k (tokens_of part.now)
token_of Given = Text.given

-- the part of a note or a command is just its tokens' form
abbrev pub WholePart : Token → Type 0
WholePart (Letter c) = Unit {0}
WholePart Space = Unit {0}
WholePart (Mark l) = Unit {0}
WholePart (PageOf l) = Unit {0}
WholePart (Note part) = part.now ≡ all_written (tokens_of part.now)
WholePart (Command k part) = part.now ≡ all_written (tokens_of part.now)
WholePart Given = Unit {0}

pub record First (bs : List ℕ) (t : Token) (rest : List ℕ) : Type 0 where
  pub tokens : tokens_of bs ≡ more (token_of t) (tokens_of rest)
  pub form : bs ≡ written (token_of t) ++ rest
  pub part : WholePart t

abbrev pub BeginsWith : List ℕ → Option (Token × Bor (List ℕ)) → Type 0
BeginsWith bs None = tokens_of bs ≡ none
BeginsWith bs (Some p) = First bs p.0 p.1.now

abbrev pub TakesFirst : List ℕ → Option Token → List ℕ → Type 0
TakesFirst bs None rest = (tokens_of bs ≡ none) × (rest ≡ bs)
TakesFirst bs (Some t) rest = First bs t rest
