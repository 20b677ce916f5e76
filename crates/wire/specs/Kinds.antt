-- The bytes that tokens, calls and answers begin with.
--   token_byte, call_byte, answer_byte   the byte of a kind
--   token_width                          how many bytes a kind of token has
--   Numbered                             no space, no note and not what is given
--   Behind                               what stands behind so many bytes
--   TokenByte, CallByte, AnswerByte      the kind that has a byte, or that none has it
use Rattle.std.specs.Prelude.{◌≡◌, ◌≢◌, ℕ, ◌+◌, ◌<◌, List, length, drop, Option, Some, None, Result, MatchResult}
use Rattle.std.specs.Borrow.{Bor}
use Rattle.wire.specs.declared.kind.NoKind.{NoKind}
use Rattle.wire.specs.declared.kind.TokenKind.{TokenKind}
use Rattle.wire.specs.declared.kind.TokenKind.TheVariants as TokenKinds
use Rattle.wire.specs.declared.kind.CallKind.{CallKind}
use Rattle.wire.specs.declared.kind.CallKind.TheVariants as CallKinds
use Rattle.wire.specs.declared.kind.AnswerKind.{AnswerKind}
use Rattle.wire.specs.declared.kind.AnswerKind.TheVariants as AnswerKinds

abbrev pub token_byte : TokenKind → ℕ
token_byte TokenKinds.Letter = 0
token_byte TokenKinds.Space = 1
token_byte TokenKinds.Mark = 2
token_byte TokenKinds.PageOf = 3
token_byte TokenKinds.Note = 4
token_byte TokenKinds.Command = 5
token_byte TokenKinds.Given = 6
token_byte TokenKinds.End = 7

-- of a note or a command those before what it holds
abbrev pub token_width : TokenKind → ℕ
token_width TokenKinds.Letter = 2
token_width TokenKinds.Space = 1
token_width TokenKinds.Mark = 2
token_width TokenKinds.PageOf = 2
token_width TokenKinds.Note = 1
token_width TokenKinds.Command = 2
token_width TokenKinds.Given = 1
token_width TokenKinds.End = 1

-- no kind that stands for itself, or is followed at once by what it holds
abbrev pub Numbered : TokenKind → Type 0
Numbered k = (k ≢ TokenKinds.Space) × (k ≢ TokenKinds.Note) × (k ≢ TokenKinds.Given)

-- what stands behind so many bytes, if they are there
abbrev pub Behind : ℕ → List ℕ → Option (Bor (List ℕ)) → Type 0
Behind n bs None = length bs < n
Behind n bs (Some part) = (n + length part.now ≡ length bs) × (part.now ≡ drop n bs)

abbrev pub call_byte : CallKind → ℕ
call_byte CallKinds.Put = 0
call_byte CallKinds.Cut = 1
call_byte CallKinds.Define = 2
call_byte CallKinds.Show = 3
call_byte CallKinds.WhereIs = 4
call_byte CallKinds.HowMany = 5
call_byte CallKinds.PutIn = 6

abbrev pub answer_byte : AnswerKind → ℕ
answer_byte AnswerKinds.Done = 0
answer_byte AnswerKinds.Refused = 1
answer_byte AnswerKinds.Rows = 2
answer_byte AnswerKinds.Numbers = 3

abbrev pub TokenByte : ℕ → Result TokenKind NoKind → Type 0
TokenByte byte r = MatchResult r (λ kind. token_byte kind ≡ byte) (λ _. 7 < byte)

abbrev pub CallByte : ℕ → Result CallKind NoKind → Type 0
CallByte byte r = MatchResult r (λ kind. call_byte kind ≡ byte) (λ _. 6 < byte)

abbrev pub AnswerByte : ℕ → Result AnswerKind NoKind → Type 0
AnswerByte byte r = MatchResult r (λ kind. answer_byte kind ≡ byte) (λ _. 3 < byte)
