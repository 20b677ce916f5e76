-- Rows written one behind another.
--   rows_left   of rows that are still to come, those that will be written
--   finish      what the answer's bytes are once that is done
--   finish_at   and where they end
--   Takes       of all rows only those that are left are still to come: they give from here on what all would have given at first
--   TakesAll    none of them is left
use Rattle.std.specs.Prelude.{◌≡◌, ℕ, ◌+◌, List, [], ◌++◌, length, take, drop}
use Rattle.meaning.specs.Lines.{Placed}
use Rattle.wire.specs.Bytes.{over, rows_bytes}
use Rattle.layout.specs.declared.rows.RowWriter.{RowWriter}

abbrev pub rows_left : RowWriter → List (List Placed) → List (List Placed)
rows_left w ls = take w.left (drop w.skip ls)

unfoldable pub finish : RowWriter → List (List Placed) → List ℕ
finish w ls = take w.end w.out.now ++ over (rows_bytes (rows_left w ls)) (drop w.end w.out.now)

unfoldable pub finish_at : RowWriter → List (List Placed) → ℕ
finish_at w ls = w.end + length (rows_bytes (rows_left w ls))

pub record Takes (before after : RowWriter) (all left : List (List Placed)) : Type 0 where
  pub lent : after.out.ghost_name ≡ before.out.ghost_name
  pub bytes : (more : List (List Placed)) → finish after (left ++ more) ≡ finish before (all ++ more)
  pub end : (more : List (List Placed)) → finish_at after (left ++ more) ≡ finish_at before (all ++ more)

abbrev pub TakesAll : RowWriter → RowWriter → List (List Placed) → Type 0
TakesAll before after all = Takes before after all []
