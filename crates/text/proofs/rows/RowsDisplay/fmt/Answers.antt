use Rattle.std.proofs.Common.{◌∷◌, ◌++◌, is_ok, Ok, codes, decimal, sym, ap, ◌∙◌, subst, append_assoc}
use Rattle.std.proofs.Output.{has_written_of_eq, has_written_append}
use Rattle.text.specs.declared.rows.EachRow.{EachRow}
use Rattle.text.specs.Rows.{row_text, lines_text, rows_text, letters_of, rows_in}
use Rattle.text.proofs.Printed.{Left, left_none, left_more, left_all, shows_mapped}
use Rattle.text.proofs.RowParts.{rows_next, rows_over, length_rows}
use Rattle.text.proofs.rows.RowsDisplay.fmt.Goals as goal

pub loop-row-init : goal.loop-row-init
loop-row-init g c rs e =
    let count = c.args.self.now.count in
    let are = ap (λ (s : EachRow). rows_in count s.0.now) c.into_iter-row-iterator.ensures.into_iter_gives ∙ e in
    (rs, record { count = count; are = are }, left_none g.W.Write.write_str_gives _ _)

pub loop-row-preserved : goal.loop-row-preserved
unfolding lines_text
loop-row-preserved g c rs e =
    let took = g.W.Write.write_str_gives in
    let so = c.loop-row.invariant rs e in
    let next = rows_next c.loop-row.row-iterator.0.now _ _ so.0 so.1 (sym c.in-Some.ensures.steps) in
    let line = 10 ∷ row_text (letters_of c.in-Some.row.0.now) in (
      next.0,
      next.2,
      left_more took _ _ _ _ line (lines_text next.0) _ (subst (λ left. Left took c.write.new.self c.loop-row.f (lines_text rs) (lines_text left)) next.1 so.2)
          c.write-in-loop-row.ensures.writes (ap is_ok c.in_ok-write-2.was),
    )

pub returns-clause-writes : goal.returns-clause-writes
unfolding lines_text
returns-clause-writes g c =
    let took = g.W.Write.write_str_gives in
    let rows = c.args.self.now in
    shows_mapped took _ _ (Ok tt) rows_text (rows_in rows.count rows.bytes.now) (λ rs e plain ok.
    let so = c.loop-row.invariant rs e in
    let head = c.write.ensures.writes plain (ap is_ok c.in_ok-write.was) in
    let lines = left_all took _ _ _ _ so.2 (ap lines_text (rows_over c.loop-row.row-iterator.0.now so.0 so.1 (sym c.in-None.ensures.steps.0))) head.plain in
    let text = append_assoc (codes "rows ") (decimal rows.count) (lines_text rs) ∙ ap (λ n. codes "rows " ++ (decimal n ++ lines_text rs)) (sym (length_rows rows.count rows.bytes.now rs e)) in
    has_written_of_eq took _ _ _ _ text (has_written_append took _ _ _ _ _ head lines))
