use Rattle.std.proofs.Common.{refl, ap, ◌∙◌, length}
use Rattle.layout.proofs.Breaking.{broken_and_kept}
use Rattle.layout.proofs.book.Book.break_paragraph.Goals as goal

pub returns : goal.returns
returns c =
    let book = c.args.self.now in
    let parts = c.split_at_mut-row.ensures in
    let (lines, long, behind) =
    broken_and_kept book.sheet c.args.tokens.now book.work.now book.fits.bulk book.room book.fits.width _ _ c.break_into_lines.result _ c.unwrap_or.ensures
    (rw (parts.front, parts.back, c.from.ensures) at c.break_into_lines.ensures) (c.break_into_lines.auto.row ∙ ap length parts.front)
    in
    record { lines = lines; same = record { sheet = refl; paragraphs = refl; lent = refl; as_long = long; behind = behind } }
