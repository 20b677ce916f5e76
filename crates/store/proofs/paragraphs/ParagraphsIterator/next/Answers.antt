use Rattle.std.proofs.Common.{length, ap, rules}
use Rattle.store.proofs.Cutting.{paragraphs_none, paragraphs_short, paragraphs_cut}
use Rattle.store.proofs.paragraphs.ParagraphsIterator.next.Goals as goal

pub returns-in_err-bytes-clause-steps : goal.returns-in_err-bytes-clause-steps
returns-in_err-bytes-clause-steps c =
    let none = paragraphs_none c.args.self.now.tokens.now c.args.self.now.entries.now c.in_err-bytes.ensures.cases in
    rw c.from_residual.ensures (none, none)

pub returns-in_err-paragraph-clause-steps : goal.returns-in_err-paragraph-clause-steps
returns-in_err-paragraph-clause-steps c =
    let none = paragraphs_short c.args.self.now.tokens.now _ _ _ c.in_ok-bytes.ensures.cases.0 c.in_err-paragraph.ensures.cases in
    rw c.from_residual-in_err-paragraph.ensures (none, none)

pub returns-clause-steps : goal.returns-clause-steps
returns-clause-steps c =
    let cut = c.in_ok-paragraph.ensures.cases in
    paragraphs_cut c.args.self.now.tokens.now _ _ _ _ _ c.in_ok-bytes.ensures.cases.0 cut.0 cut.1 cut.2

pub returns-clause-goes : goal.returns-clause-goes
returns-clause-goes c =
    let cut = c.in_ok-paragraph.ensures.cases in
    let step = paragraphs_cut c.args.self.now.tokens.now _ _ _ c.in_ok-paragraph.paragraph.now c.in_ok-paragraph.tokens.now c.in_ok-bytes.ensures.cases.0 cut.0 cut.1 cut.2 in
    let shorter = ap length step in
    search rules
