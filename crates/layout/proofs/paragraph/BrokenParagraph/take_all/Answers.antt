use Rattle.std.proofs.Common.{◌∙◌, subst}
use Rattle.meaning.specs.Calls.{letters_of}
use Rattle.layout.specs.Paragraphs.{broken_lines}
use Rattle.layout.specs.Finishes.{Takes}
use Rattle.layout.proofs.LineSteps.{rows_are, all_within}
use Rattle.layout.proofs.Taking.{takes_none}
use Rattle.layout.proofs.paragraph.BrokenParagraph.take_all.Goals as goal

pub loop-words-init : goal.loop-words-init
loop-words-init c =
    let p = c.args.self.now in
    let rows = c.args.rows.now in
    let all = letters_of (broken_lines p) in
    rw (c.into_iter-words-iterator.ensures.into_iter_gives ∙ c.lines-words-items.ensures)
    (record {
      within = all_within p.sheet.now p.row.now p.slots.now p.lines;
      taken = subst (Takes rows rows all) (rows_are p.sheet.now p.row.now p.slots.now p.lines) (takes_none rows all);
    })
