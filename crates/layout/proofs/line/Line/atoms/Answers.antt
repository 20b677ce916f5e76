use Rattle.std.proofs.Common.{arith}
use Rattle.layout.proofs.SetLines.{line_cut}
use Rattle.layout.proofs.line.Line.atoms.Goals as goal

pub overflow_add-result : goal.overflow_add-result
overflow_add-result c =
    let cut = line_cut c.args.self.now c.as_chunks.ensures.front c.from-first.ensures c.from-last.ensures in
    omega (arith, cut.within, cut.few)

pub offset_bounds-row-first : goal.offset_bounds-row-first
offset_bounds-row-first c =
    let cut = line_cut c.args.self.now c.as_chunks.ensures.front c.from-first.ensures c.from-last.ensures in
    omega (arith, cut.forward, cut.within, cut.few)

pub slice_bounds-result-count : goal.slice_bounds-result-count
slice_bounds-result-count c = (line_cut c.args.self.now c.as_chunks.ensures.front c.from-first.ensures c.from-last.ensures).forward

pub slice_bounds-result-start : goal.slice_bounds-result-start
slice_bounds-result-start c =
    let cut = line_cut c.args.self.now c.as_chunks.ensures.front c.from-first.ensures c.from-last.ensures in
    omega (arith, cut.forward, cut.within)

pub slice_bounds-result-end : goal.slice_bounds-result-end
slice_bounds-result-end c =
    let cut = line_cut c.args.self.now c.as_chunks.ensures.front c.from-first.ensures c.from-last.ensures in
    omega (arith, cut.within)

pub returns : goal.returns
returns c = (line_cut c.args.self.now c.as_chunks.ensures.front c.from-first.ensures c.from-last.ensures).part
