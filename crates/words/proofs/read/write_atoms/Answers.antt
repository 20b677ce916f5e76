use Rattle.std.proofs.Common.{ℕ, List, ◌++◌, ◌-◌, length, take, drop, ap, ◌∙◌, arith}
use Rattle.std.proofs.lemmas.List.{append-nil, length-drop, drop_all, take_rest}
use Rattle.words.proofs.ReadingAtoms.{none_so_far, reads_refused, reads_all, so_far_more}
use Rattle.words.proofs.read.write_atoms.Goals as goal

pub loop-token-init : goal.loop-token-init
loop-token-init c = rw c.into_iter-token-iterator.ensures.into_iter_gives (none_so_far c.args.tokens.now c.args.row.now)

pub returns-in_err-n : goal.returns-in_err-n
returns-in_err-n c =
    rw c.from_residual.ensures
    (reads_refused c.loop-token.invariant c.in-Some.ensures.steps _ (ap length (take_rest c.loop-token.row c.loop-token.n) ∙ length-drop c.loop-token.n c.loop-token.row) c.in_err-n.ensures.numbers)

pub loop-token-preserved : goal.loop-token-preserved
loop-token-preserved c =
    so_far_more c.loop-token.invariant c.in-Some.ensures.steps (take_rest c.loop-token.row c.loop-token.n) c.in_ok-n.ensures.numbers c.in_ok-n.ensures.plain
    (ap (λ (xs : List ℕ). take c.loop-token.n c.loop-token.row ++ (c.write_atom.new.row ++ xs)) (drop_all (length c.loop-token.row - c.loop-token.n) (drop c.loop-token.n c.loop-token.row) (omega (arith, length-drop c.loop-token.n c.loop-token.row))) ∙ ap (λ (xs : List ℕ). take c.loop-token.n c.loop-token.row ++ xs) (append-nil c.write_atom.new.row))

pub returns : goal.returns
returns c = reads_all c.loop-token.invariant c.in-None.ensures.steps.0
