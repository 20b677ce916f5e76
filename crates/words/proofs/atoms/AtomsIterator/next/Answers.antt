use Rattle.std.proofs.Common.{rules, refl}
use Rattle.words.specs.Atoms.{decoded_in}
use Rattle.words.proofs.Decoding.{takes_first, takes_none}
use Rattle.words.proofs.atoms.AtomsIterator.next.Goals as goal

pub returns-in_err-number-clause-steps : goal.returns-in_err-number-clause-steps
unfolding decoded_in
returns-in_err-number-clause-steps c = search rules

pub returns-in_err-text-clause-steps : goal.returns-in_err-text-clause-steps
returns-in_err-text-clause-steps c =
    rw c.from_residual-in_err-text.ensures (takes_none c.in_ok-number.ensures.cases.0 c.saturating_sub.ensures c.in_err-text.ensures.cases, refl)

pub returns-clause-steps : goal.returns-clause-steps
returns-clause-steps c =
    takes_first c.in_ok-number.ensures.cases.0 c.saturating_sub.ensures c.in_ok-text.ensures.cases.0 c.in_ok-text.ensures.cases.1 c.in_ok-text.ensures.cases.2 c.of.ensures
