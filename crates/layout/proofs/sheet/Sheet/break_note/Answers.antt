use Rattle.layout.proofs.Noting.{note_broken}
use Rattle.layout.proofs.sheet.Sheet.break_note.Goals as goal

pub returns : goal.returns
returns c = note_broken c.requires.fits c.requires.text.0 c.requires.text.1.0 (rw c.from.ensures at c.break_row.ensures)
