use Rattle.std.proofs.Common.{◌∷◌, ap}
use Rattle.std.proofs.lemmas.List.{nil_from_length}
use Rattle.wire.specs.declared.token.Token.TheVariants.{Letter, Mark, PageOf}
use Rattle.wire.proofs.Firsts.{first_from_form, command_first, command_unclosed, number_missing, end_first}
use Rattle.wire.proofs.token.numbered_token.Goals as goal

pub returns-in_err-number : goal.returns-in_err-number
returns-in_err-number c = rw (c.from_residual.ensures, nil_from_length c.args.bytes.now c.in_err-number.ensures.cases) (number_missing c.args.kind c.requires)

pub returns-in-Letter : goal.returns-in-Letter
returns-in-Letter c = rw c.in-Letter.is (first_from_form _ (Letter _) _ (ap (λ xs. 0 ∷ xs) c.in_ok-number.ensures.cases.0) tt)

pub returns-in-Mark : goal.returns-in-Mark
returns-in-Mark c = rw c.in-Mark.is (first_from_form _ (Mark _) _ (ap (λ xs. 2 ∷ xs) c.in_ok-number.ensures.cases.0) tt)

pub returns-in-PageOf : goal.returns-in-PageOf
returns-in-PageOf c = rw c.in-PageOf.is (first_from_form _ (PageOf _) _ (ap (λ xs. 3 ∷ xs) c.in_ok-number.ensures.cases.0) tt)

pub returns-in_err-inside-in-Command : goal.returns-in_err-inside-in-Command
returns-in_err-inside-in-Command c =
    rw (c.from_residual-in_err-inside-in-Command.ensures, c.in-Command.is, c.in_ok-number.ensures.cases.0)
    (command_unclosed _ _ c.in_err-inside-in-Command.ensures)

pub returns-in_ok-inside-in-Command : goal.returns-in_ok-inside-in-Command
returns-in_ok-inside-in-Command c =
    rw (c.in-Command.is, c.in_ok-number.ensures.cases.0) (command_first _ _ c.in_ok-inside-in-Command.rest c.in_ok-inside-in-Command.ensures _)

pub returns-in_default : goal.returns-in_default
returns-in_default c =
    end_first c.args.kind c.args.bytes.now c.requires c.in_default.not-Letter c.in_default.not-Mark c.in_default.not-PageOf c.in_default.not-Command
