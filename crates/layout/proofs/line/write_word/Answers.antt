use Rattle.std.proofs.Common.{◌∙◌, arith}
use Rattle.layout.proofs.Placing.{lettered_more, lettered_same, lettered_room, lettered_all}
use Rattle.layout.proofs.line.write_word.Goals as goal

pub slice_bounds-copy_from_slice-end : goal.slice_bounds-copy_from_slice-end
slice_bounds-copy_from_slice-end c =
    let f = rw c.in-Letter.is at c.in-Some.ensures.steps in
    let room = lettered_room c.loop-atom.invariant f in
    omega (arith, room, c.requires.0, c.loop-atom.invariant.as_long)

pub loop-atom-preserved-in-Letter : goal.loop-atom-preserved-in-Letter
loop-atom-preserved-in-Letter c =
    lettered_more c.loop-atom.invariant (rw c.in-Letter.is at c.in-Some.ensures.steps) c.requires.0
    c.letter_width-place.ensures.value c.letter_width-place.ensures.small (omega arith) (c.copy_from_slice.ensures.after ∙ c.letter_bytes.ensures)

pub loop-atom-preserved : goal.loop-atom-preserved
loop-atom-preserved c = lettered_same c.loop-atom.invariant _ c.in_default.not-Letter c.in-Some.ensures.steps

pub returns-clause-value : goal.returns-clause-value
returns-clause-value c = (lettered_all c.loop-atom.invariant c.in-None.ensures.steps.0).0

pub returns-clause-after : goal.returns-clause-after
returns-clause-after c = (lettered_all c.loop-atom.invariant c.in-None.ensures.steps.0).1
