-- What holds of the notation.
--   NotesTokens   what is read of a text is the form of tokens
use Rattle.std.specs.Prelude.{◌≡◌, ℕ, List, Ok}
use Rattle.meaning.specs.Text.{all_written}
use Rattle.wire.specs.Bytes.{tokens_of}
use Rattle.notation.specs.Noted.{noted}

abbrev pub NotesTokens : Type 0
NotesTokens = (text bs : List ℕ) → noted text ≡ Ok bs → bs ≡ all_written (tokens_of bs)
