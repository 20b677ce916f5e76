-- The definitions that commands are counted by.
--   definition_of       what a definition's number and token bytes mean
--   new_definition      what is defined besides
--   all_definitions     all that are left, and the new one behind them
--   TwiceAllRows        there are two rows for each command
use Rattle.std.specs.Prelude.{ℕ, ◌≤◌, List, [], ◌∷◌, ◌++◌, map, length, Some, None, Option}
use Rattle.meaning.specs.Text.{Definition}
use Rattle.wire.specs.Bytes.{tokens_of}
use Rattle.store.specs.Defined.{definitions_left, plain}
use Rattle.store.specs.declared.definitions.Defined.{Defined}
use Rattle.store.specs.declared.definitions.Definitions.{Definitions}

abbrev pub definition_of : ℕ × List ℕ → Definition
definition_of d = record { nr = d.0; as_what = tokens_of d.1 }

abbrev pub new_definition : Option Defined → List Definition
new_definition None = []
new_definition (Some d) = definition_of (plain d) ∷ []

abbrev pub all_definitions : Definitions → Option Defined → List Definition
all_definitions it new = map definition_of (definitions_left it) ++ new_definition new

abbrev pub TwiceAllRows : List ℕ → Type 0
TwiceAllRows forms = 2560 ≤ length forms
