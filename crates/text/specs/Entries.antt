-- What a line says.
--   keyword_of   which keyword a word is, if it is one
--   limits_of    what four words say as numbers, and no fifth
--   entry_by     what the words behind a keyword say
--   entry_of     what the bytes of a line say, if they say anything
use Rattle.std.specs.Prelude.{ℕ, cond, List, [], ◌∷◌, Some, None, Ok, Err, codes, Option, Result, ◌==◌}
use Rattle.std.specs.Str.{bytes_eq}
use Rattle.store.specs.declared.opening.Limits.{Limits}
use Rattle.notation.specs.Steps.{then}
use Rattle.text.specs.declared.entry.Entry.{Entry}
use Rattle.text.specs.declared.entry.Entry.TheVariants as entry
use Rattle.text.specs.declared.entry.Keyword.{Keyword}
use Rattle.text.specs.declared.entry.Keyword.TheVariants as keyword
use Rattle.text.specs.declared.fault.Fault.{Fault}
use Rattle.text.specs.declared.fault.Fault.TheVariants.{Unknown}
use Rattle.text.specs.Words.{first_word, words_behind, next_number, last_number}
use Rattle.text.specs.Widths.{widths_of}

unfoldable pub keyword_of : List ℕ → Result Keyword Fault
keyword_of w =
    cond (bytes_eq w (codes "limits")) (Ok keyword.Limits)
    (cond (bytes_eq w (codes "widths")) (Ok keyword.Widths) (cond (bytes_eq w (codes "width")) (Ok keyword.Width) (cond (bytes_eq w (codes "rows")) (Ok keyword.Rows) (Err Unknown))))

abbrev pub limits_of : List (List ℕ) → Result Limits Fault
limits_of ws =
    then (next_number 4294967296 ws) (λ p.
    then (next_number 4294967296 p.1) (λ t.
    then (next_number 4294967296 t.1) (λ d.
    then (last_number 4294967296 d.1) (λ b. Ok (record { paragraphs = p.0; tokens = t.0; definitions = d.0; bulk = b })))))

abbrev pub entry_by : Keyword → List (List ℕ) → Result Entry Fault
entry_by keyword.Limits ws = then (limits_of ws) (λ l. Ok (entry.Limits l))
entry_by keyword.Widths ws = then (widths_of ws) (λ w. Ok (entry.Widths w))
entry_by keyword.Width ws = then (last_number 4294967296 ws) (λ n. Ok (entry.Width n))
entry_by keyword.Rows ws = then (last_number 4294967296 ws) (λ n. Ok (entry.Rows n))

-- 35 begins a remark
abbrev pub entry_of : List ℕ → Result (Option Entry) Fault
entry_of [] = Ok None
entry_of (b ∷ bs) = cond (b == 35) (Ok None) (then (keyword_of (first_word (b ∷ bs))) (λ k. then (entry_by k (words_behind (b ∷ bs))) (λ e. Ok (Some e))))
