use Rattle.std.proofs.Common.{◌≡◌, ◌+◌, ◌*◌, ◌≤◌, ◌/◌, [], length, sym, ap, ◌∙◌, rules, arith}
use Rattle.std.proofs.lemmas.List.{get_or_past}
use Rattle.linebreak.specs.Slots.{words_at}
use Rattle.linebreak.proofs.Leading.{begins_not, line_more, lines_end}
use Rattle.linebreak.proofs.lines.LinesIterator.next.Goals as goal
use Rattle.linebreak.proofs.lines.LinesIterator.next.Goals.{then-words-eq0-via-then-words-eq0, then-words-eq0-via-else-words-eq0+then-words-left}

pub returns-in_err-words-clause-steps : goal.returns-in_err-words-clause-steps
returns-in_err-words-clause-steps c =
    let xs = c.self.inside.slots.now in
    let k = c.self.inside.first in
    let behind : length xs ≤ 8 * k + 4 = search rules in
    let none : c.args.self.now ≡ [] = sym c.self.view_is ∙ lines_end (length xs / 8) xs k (begins_not xs k (λ some. omega (arith, get_or_past xs (8 * k + 4) 0 behind))) in
    rw c.from_residual.ensures (none, none)

pub returns-then-words-eq0-clause-steps : goal.returns-then-words-eq0-clause-steps
returns-then-words-eq0-clause-steps c =
    let xs = c.self.inside.slots.now in
    let k = c.self.inside.first in
    let words : c.in_ok-words.field-0.now ≡ words_at xs k = search rules in
    let none : c.args.self.now ≡ [] = sym c.self.view_is ∙ lines_end (length xs / 8) xs k (begins_not xs k (λ some. elim c.then-words-eq0.branch [
      | then-words-eq0-via-then-words-eq0 w ↦ omega (arith, words, w.if-words-eq0.true)
      | then-words-eq0-via-else-words-eq0+then-words-left w ↦ omega (arith, words, w.if-words-left.true)
    ])) in
    (none, none)

pub returns-clause-steps : goal.returns-clause-steps
returns-clause-steps c =
    let xs = c.self.inside.slots.now in
    let k = c.self.inside.first in
    let words : c.in_ok-words.field-0.now ≡ words_at xs k = search rules in
    let one = line_more (length xs / 8) xs k (omega arith) (omega (arith, words)) (omega (arith, words)) in
    sym c.self.view_is ∙ rw (← words) at one

pub returns-clause-goes : goal.returns-clause-goes
returns-clause-goes c =
    let shorter = ap length (returns-clause-steps c) in
    search rules
