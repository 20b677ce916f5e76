use Rattle.expand.specs.Forms.{meant}
use Rattle.expand.proofs.OtherRows.{other_row}
use Rattle.expand.proofs.rows.set_row.Goals as goal

pub returns-clause-others : goal.returns-clause-others
returns-clause-others c = λ k n. rw c.from-at.ensures (other_row c.args.forms.now c.args.command (meant c.args.form) k n)
