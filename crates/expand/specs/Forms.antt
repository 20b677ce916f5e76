-- What a form of the code means, and the forms of commands in rows.
--   meant            the form that is meant by one of the code
--   AllRows          there is a row for each command
--   row_form         the form of a command, by its row
--   tokens_defined   what a command stands for
--   RowsAt           rows that are the forms of commands, commands in them gone so deep
use Rattle.std.specs.Prelude.{◌≡◌, ℕ, ◌+◌, ◌*◌, ◌<◌, ◌≤◌, List, length, slice_index, Some, None, Option}
use Rattle.std.specs.Borrow.{Bor}
use Rattle.meaning.specs.Text.{Tokens, given, none, more, Definition}
use Rattle.meaning.specs.Sizes.{stopped_at}
use Rattle.meaning.specs.Sizes
use Rattle.wire.specs.Bytes.{tokens_of}
use Rattle.expand.specs.declared.form.Form.{Form}

abbrev pub meant : Form → Sizes.Form
meant f = record { own = f.own; given = f.given; noted = f.noted; text = f.text; text_given = f.text_given }

abbrev pub AllRows : List ℕ → Type 0
AllRows forms = 1280 ≤ length forms

abbrev pub row_form : List ℕ → ℕ → Sizes.Form
row_form forms k =
    let at : ℕ = 5 * k in
    record {
      own = slice_index forms at;
      given = slice_index forms (at + 1);
      noted = slice_index forms (at + 2);
      text = slice_index forms (at + 3);
      text_given = slice_index forms (at + 4);
    }

-- of no definition what is given
abbrev pub tokens_defined : Option (Bor (List ℕ)) → Tokens
tokens_defined None = more given none
tokens_defined (Some part) = tokens_of part.now

-- as numbers that stop past a limit
abbrev pub RowsAt : ℕ → ℕ → List Definition → List ℕ → Type 0
RowsAt most n ds forms = (k : ℕ) → k < 256 → row_form forms k ≡ stopped_at most n ds k
