use Rattle.std.proofs.Common.{◌*◌, ◌/◌, length, take, inl, ap, arith}
use Rattle.std.proofs.lemmas.Iterator.Consumers.{YieldsList-from_first, count_from_yields_List}
use Rattle.linebreak.specs.Lines.{lines_of}
use Rattle.linebreak.proofs.Leading.{lines_few}
use Rattle.speed.proofs.Counting.{lines_counted, untouched, nothing_used, zeros_again, as_many, used_long}
use Rattle.speed.proofs.lines.count_lines.Goals as goal

pub count-lines-requires-clause-fits : goal.count-lines-requires-clause-fits
count-lines-requires-clause-fits c =
    let broken = c.in_ok-taken.ensures in
    let used = take (8 * c.in_ok-taken.taken.words) c.break_into_lines.new.slots in
    inl (omega (arith, ap length c.of.ensures, lines_few (length used / 8) used 0, used_long broken, as_many broken, broken.few, broken.room, c.requires.0))

pub returns-clause-value : goal.returns-clause-value
returns-clause-value c =
    let used = take (8 * c.in_ok-taken.taken.words) c.break_into_lines.new.slots in
    let count = count_from_yields_List c.of.result c.count-lines.result c.count-lines.ensures.ran (YieldsList-from_first (λ x. x) (λ rest. rest) (lines_of used) c.of.ensures) in
    lines_counted c.in_ok-taken.ensures count

pub returns-clause-same : goal.returns-clause-same
returns-clause-same c = zeros_again c.in_ok-taken.ensures (c.fill-2.ensures.after (λ y e. e))

pub returns-in_err-taken-clause-slots : goal.returns-in_err-taken-clause-slots
returns-in_err-taken-clause-slots c = nothing_used c.in_err-taken.ensures

pub returns-in_err-taken-clause-same : goal.returns-in_err-taken-clause-same
returns-in_err-taken-clause-same c = λ _. untouched c.in_err-taken.ensures
