use Rattle.std.proofs.Common.{◌≡◌, ℕ, ◌<◌, List, ◌∷◌, Some, None, Ok, Err, Result, sym, refl, ap, ◌∙◌}
use Rattle.std.specs.Result.{result_ok}
use Rattle.std.proofs.lemmas.List.{nil_from_length}
use Rattle.std.proofs.lemmas.Option.{same_Some}
use Rattle.wire.specs.Bytes.{parsed_in}
use Rattle.wire.specs.Kinds.{token_byte, TokenByte}
use Rattle.wire.specs.declared.kind.TokenKind.{TokenKind}
use Rattle.wire.specs.declared.kind.NoKind.{NoKind}
use Rattle.wire.specs.declared.token.Token.TheVariants.{Space, Given}
use Rattle.wire.proofs.Firsts.{none_first, first_from_form, note_first, note_unclosed}
use Rattle.wire.proofs.token.next_token.Goals as goal

no_kind : (x : ℕ) (k : Result TokenKind NoKind) → None ≡ result_ok k → TokenByte x k → 7 < x
no_kind x (Ok kind) e h = absurd (cc)
no_kind x (Err none) e h = h

pub returns-in_err-byte : goal.returns-in_err-byte
unfolding parsed_in
returns-in_err-byte c = rw (c.from_residual.ensures, nil_from_length c.args.bytes.now c.in_err-byte.ensures.cases) refl

pub returns-in_err-kind : goal.returns-in_err-kind
returns-in_err-kind c =
    rw c.from_residual-in_err-kind.ensures (none_first _ _ _ c.in_ok-byte.ensures.cases.0 (no_kind _ _ c.in_err-kind.ensures.value c.try_from.ensures))

-- bytes whose first one is that of a kind
front : (bs : List ℕ) (x : ℕ) (rest : List ℕ) (k : TokenKind) (r : Result TokenKind NoKind) → bs ≡ x ∷ rest → Some k ≡ result_ok r → TokenByte x r → bs ≡ token_byte k ∷ rest
front bs x rest k (Ok kind) e f h = e ∙ ap (λ y. y ∷ rest) (sym h ∙ ap token_byte (sym (same_Some k kind f)))
front bs x rest k (Err none) e f h = absurd (cc)

pub returns-in-Space : goal.returns-in-Space
returns-in-Space c =
    rw (front _ _ _ _ _ c.in_ok-byte.ensures.cases.0 c.in_ok-kind.ensures.value c.try_from.ensures, c.in-Space.is) (first_from_form _ Space _ refl tt)

pub returns-in-Given : goal.returns-in-Given
returns-in-Given c =
    rw (front _ _ _ _ _ c.in_ok-byte.ensures.cases.0 c.in_ok-kind.ensures.value c.try_from.ensures, c.in-Given.is) (first_from_form _ Given _ refl tt)

pub returns-in_err-inside-in-Note : goal.returns-in_err-inside-in-Note
returns-in_err-inside-in-Note c =
    rw (c.from_residual-in_err-inside-in-Note.ensures, front _ _ _ _ _ c.in_ok-byte.ensures.cases.0 c.in_ok-kind.ensures.value c.try_from.ensures, c.in-Note.is)
    (note_unclosed _ c.in_err-inside-in-Note.ensures)

pub returns-in_ok-inside-in-Note : goal.returns-in_ok-inside-in-Note
returns-in_ok-inside-in-Note c =
    rw (front _ _ _ _ _ c.in_ok-byte.ensures.cases.0 c.in_ok-kind.ensures.value c.try_from.ensures, c.in-Note.is)
    (note_first _ _ c.in_ok-inside-in-Note.rest c.in_ok-inside-in-Note.ensures)

pub returns-in_default : goal.returns-in_default
returns-in_default c =
    rw (front _ _ _ _ _ c.in_ok-byte.ensures.cases.0 c.in_ok-kind.ensures.value c.try_from.ensures) c.numbered_token.ensures
