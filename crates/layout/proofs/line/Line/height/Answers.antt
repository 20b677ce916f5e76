use Rattle.std.proofs.Common.{◌*◌, length, take, inl, ap, arith}
use Rattle.std.proofs.lemmas.Iterator.Consumers.{YieldsList-from_first, count_from_yields_List}
use Rattle.linebreak.specs.Lines.{lines_of}
use Rattle.layout.proofs.LineSteps.{no_more_lines}
use Rattle.words.specs.Atoms.{atom_of}
use Rattle.layout.proofs.NoteSteps.{note_lines, no_foot, note_small, note_few, note_room, counting_other, counting_note, counted_all}
use Rattle.layout.proofs.line.Line.height.Goals as goal

pub break_note-words-requires-clause-text : goal.break_note-words-requires-clause-text
break_note-words-requires-clause-text c =
    let f = c.loop-atom.invariant.finding in
    let is = ap atom_of c.in-Note.is in
    (note_small f c.in-Some.ensures.steps is, (note_few f c.in-Some.ensures.steps is, note_room f c.in-Some.ensures.steps is c.requires))

pub count-rows-requires-clause-fits : goal.count-rows-requires-clause-fits
count-rows-requires-clause-fits c =
    let lines = note_lines c.break_note-words.ensures in
    inl (omega (arith, ap length c.lines.ensures, no_more_lines _ _ _ lines, lines.few_words, lines.few))

pub overflow_add-rows : goal.overflow_add-rows
overflow_add-rows c =
    let count = count_from_yields_List c.lines.result c.count-rows.result c.count-rows.ensures.ran (YieldsList-from_first (λ x. x) (λ rest. rest) (lines_of (take (8 * c.break_note-words.result) c.break_note-words.new.slots)) c.lines.ensures) in
    let more = counting_note c.loop-atom.invariant c.in-Some.ensures.steps (ap atom_of c.in-Note.is) c.break_note-words.ensures count in
    omega (arith, more.few)

pub loop-atom-preserved-in-Note : goal.loop-atom-preserved-in-Note
loop-atom-preserved-in-Note c =
    let count = count_from_yields_List c.lines.result c.count-rows.result c.count-rows.ensures.ran (YieldsList-from_first (λ x. x) (λ rest. rest) (lines_of (take (8 * c.break_note-words.result) c.break_note-words.new.slots)) c.lines.ensures) in
    counting_note c.loop-atom.invariant c.in-Some.ensures.steps (ap atom_of c.in-Note.is) c.break_note-words.ensures count

pub loop-atom-preserved : goal.loop-atom-preserved
loop-atom-preserved c = counting_other c.loop-atom.invariant c.in-Some.ensures.steps (no_foot c.in-Some.atom c.in_default.not-Note)

pub returns-clause-value : goal.returns-clause-value
returns-clause-value c = counted_all c.loop-atom.invariant c.in-None.ensures.steps.0
