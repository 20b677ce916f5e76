use Rattle.std.proofs.Common.{◌≡◌, ◌∙◌, arith}
use Rattle.std.proofs.lemmas.List.{get_or_default}
use Rattle.words.specs.Slots.{wide_by}
use Rattle.words.proofs.Broken.{broken_row}
use Rattle.words.proofs.lines.break_row.Goals as goal

pub returns : goal.returns
returns c =
    let gap : c.from.result ≡ wide_by c.args.widths.now 32 = c.from.ensures ∙ get_or_default c.args.widths.now 0 0 1 (omega arith) in
    broken_row c.requires.0 c.requires.1.0 c.split_words-words.ensures.words gap c.break_lines.ensures.after c.break_lines.ensures.same
