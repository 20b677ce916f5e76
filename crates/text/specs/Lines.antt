-- The lines of a file.
--   line_of  a line without its end: a line feed, or a carriage return and one
use Rattle.std.specs.Prelude.{ℕ, List, if◌then◌else◌}
use Rattle.std.specs.Io.BufRead.{ends_with_byte, strip_last}

unfoldable pub line_of : List ℕ → List ℕ
line_of s = if ends_with_byte 10 s then strip_last 13 (strip_last 10 s) else s
