use Rattle.std.proofs.Common.{ap}
use Rattle.words.specs.Atoms.{atom_of}
use Rattle.layout.proofs.NoteSteps.{no_foot, note_small, note_few, note_room, notes_other, notes_note, notes_all, notes_done}
use Rattle.layout.proofs.line.Line.take_notes.Goals as goal

pub break_note-words-requires-clause-text : goal.break_note-words-requires-clause-text
break_note-words-requires-clause-text c =
    let f = c.loop-atom.invariant.finding in
    let is = ap atom_of c.in-Note.is in
    (note_small f c.in-Some.ensures.steps is, (note_few f c.in-Some.ensures.steps is, note_room f c.in-Some.ensures.steps is c.requires))

pub loop-atom-preserved-in-Note : goal.loop-atom-preserved-in-Note
loop-atom-preserved-in-Note c = notes_note c.loop-atom.invariant c.in-Some.ensures.steps (ap atom_of c.in-Note.is) c.break_note-words.ensures c.take_all.ensures

pub loop-atom-preserved : goal.loop-atom-preserved
loop-atom-preserved c = notes_other c.loop-atom.invariant c.in-Some.ensures.steps (no_foot c.in-Some.atom c.in_default.not-Note)

pub returns-in-None-clause-rows : goal.returns-in-None-clause-rows
returns-in-None-clause-rows c = notes_all c.loop-atom.invariant c.in-None.ensures.steps.0

pub returns-then-rows-eq0-clause-rows : goal.returns-then-rows-eq0-clause-rows
returns-then-rows-eq0-clause-rows c = notes_done c.loop-atom.invariant c.if-rows-eq0.true
