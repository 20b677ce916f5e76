use Rattle.std.proofs.Common.{length, ap, arith, rules}
use Rattle.store.proofs.DefinitionsCut.{defined_none, defined_short, defined_unnumbered, defined_cut}
use Rattle.store.proofs.definitions.DefinitionsIterator.next.Goals as goal

pub returns-in_err-bytes-clause-steps : goal.returns-in_err-bytes-clause-steps
returns-in_err-bytes-clause-steps c =
    let none = defined_none c.args.self.now.tokens.now c.args.self.now.entries.now c.in_err-bytes.ensures.cases in
    rw c.from_residual.ensures (none, none)

pub returns-in_err-definition-clause-steps : goal.returns-in_err-definition-clause-steps
returns-in_err-definition-clause-steps c =
    let none = defined_short c.args.self.now.tokens.now _ _ _ c.in_ok-bytes.ensures.cases.0 c.in_err-definition.ensures.cases in
    rw c.from_residual-in_err-definition.ensures (none, none)

pub returns-in_default-clause-steps : goal.returns-in_default-clause-steps
returns-in_default-clause-steps c =
    let none = defined_unnumbered c.args.self.now.tokens.now _ _ _ c.in_ok-bytes.ensures.cases.0 (omega (arith, c.in_default.ensures)) in (none, none)

pub returns-clause-steps : goal.returns-clause-steps
returns-clause-steps c =
    let cut = c.in_ok-definition.ensures.cases in
    defined_cut c.args.self.now.tokens.now _ _ _ _ _ _ c.in_ok-bytes.ensures.cases.0 cut.0 c.in-Ok.ensures cut.1 cut.2

pub returns-clause-goes : goal.returns-clause-goes
returns-clause-goes c =
    let cut = c.in_ok-definition.ensures.cases in
    let step =
    defined_cut c.args.self.now.tokens.now _ _ _ c.in-Ok.number c.in_ok-definition.definition.now c.in_ok-definition.tokens.now c.in_ok-bytes.ensures.cases.0 cut.0
    c.in-Ok.ensures cut.1 cut.2
    in
    let shorter = ap length step in
    search rules
