use Rattle.std.proofs.Common.{◌∙◌, arith}
use Rattle.layout.proofs.LineSteps.{no_more_lines}
use Rattle.layout.proofs.LineWalks.{walked_start, walked_more, walked_grown, walked_done, walked_all}
use Rattle.layout.proofs.paragraph.BrokenParagraph.search.Goals as goal

pub loop-words-init : goal.loop-words-init
loop-words-init c = rw (c.into_iter-words-iterator.ensures.into_iter_gives ∙ c.lines-words-items.ensures) (walked_start c.args.self.now c.args.search c.args.notes.now c.requires.0)

pub line-search-requires : goal.line-search-requires
line-search-requires c =
    let p = c.args.self.now in
    let w = c.loop-words.invariant in
    let g = w.grown in
    let few = no_more_lines p.sheet.now p.row.now p.slots.now p.lines in
    let words = p.lines.few_words in
    let numbers = p.lines.few in
    let small = c.requires.0 in
    (omega (arith, g.pages, small.pages), (omega (arith, g.seen, small.seen), omega (arith, w.rows, c.height.ensures.few)))

pub loop-words-preserved : goal.loop-words-preserved
loop-words-preserved c = walked_more c.loop-words.invariant c.in-Some.ensures.steps (omega arith) c.height.ensures.value c.height.ensures.few c.line-search.ensures c.height.ensures.notes

pub returns-in-None-clause-value : goal.returns-in-None-clause-value
returns-in-None-clause-value c = walked_all c.loop-words.invariant c.in-None.ensures.steps.0

pub returns-in-None-clause-grown : goal.returns-in-None-clause-grown
returns-in-None-clause-grown c = walked_grown c.loop-words.invariant

pub returns-then-search-clause-value : goal.returns-then-search-clause-value
returns-then-search-clause-value c = walked_done c.loop-words.invariant c.if-search.true

pub returns-then-search-clause-grown : goal.returns-then-search-clause-grown
returns-then-search-clause-grown c = walked_grown c.loop-words.invariant
