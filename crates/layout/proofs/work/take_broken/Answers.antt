use Rattle.std.proofs.Common.{ap, length, ◌*◌, ◌∙◌, arith}
use Rattle.std.proofs.lemmas.List.{length-take-le}
use Rattle.layout.proofs.Breaking.{works}
use Rattle.layout.proofs.work.take_broken.Goals as goal

pub returns-clause-same : goal.returns-clause-same
returns-clause-same c =
    let b = c.requires.broken in
    let long = ap length c.split_at_mut-front.ensures.front ∙ length-take-le (9 * c.args.sheet.now.bulk) c.args.work.now b.room in
    let row = ap length c.of.ensures.row ∙ length-take-le c.args.taken.numbers c.split_at_mut-front.result.0.now (omega (arith, long, b.numbers_few)) in
    works (length c.of.result.row.now) c.split_at_mut-front.ensures.front c.split_at_mut-front.ensures.back c.requires.room (omega (arith, row, b.numbers_few)) c.take_lines.ensures.notes
