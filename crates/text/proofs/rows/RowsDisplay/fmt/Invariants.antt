use Rattle.std.proofs.Common.{◌≡◌, List, Some}
use Rattle.meaning.specs.Lines.{Placed}
use Rattle.text.specs.Rows.{lines_text, rows_in}
use Rattle.text.proofs.Printed.{Left}
use Rattle.text.proofs.RowParts.{RowsLeft}
use Rattle.text.proofs.rows.RowsDisplay.fmt.Given as goal

-- if there are rows, these are left
abbrev pub invariant-loop-row : goal.invariant-loop-row
invariant-loop-row g l =
    (rs : List (List Placed)) → rows_in l.self.count l.self.bytes.now ≡ Some rs →
    (left : List (List Placed)) × RowsLeft l.row-iterator.0.now left × Left g.W.Write.write_str_gives l.initial.f l.f (lines_text rs) (lines_text left)
