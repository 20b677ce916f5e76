-- What a line says that is a call: the bytes of the call, by the word that the line begins with and what stands behind that.
--   question_of                  what is asked, by the call's first byte
--   verb_of                      which call a word begins
--   tokens_in, with_tokens       what tokens are as bytes, and a number and tokens behind a call's kind
--   put_line, cut_line, show_line, where_line, how_line, hex_line   the bytes of each call
--   call_of                      the bytes of any
--   Made, Gives                  what the code gives, where memory may fail
use Rattle.std.specs.Prelude.{◌≡◌, ℕ, ◌+◌, ◌-◌, ◌*◌, cond, ◌&&◌, ◌⊎◌, List, [], ◌∷◌, ◌++◌, Some, None, Ok, Err, vec_items, codes, Option, Result, Vec, MatchResult, ◌==◌, nat_le}
use Rattle.std.specs.Result.{result_map_both}
use Rattle.std.specs.Str.{bytes_eq}
use Rattle.std.specs.declared.alloc.Global.{Global}
use Rattle.meaning.specs.Calls.{cut, show, where_is, how_many}
use Rattle.wire.specs.Bytes.{two, call_bytes}
use Rattle.notation.specs.Noted.{noted}
use Rattle.notation.specs.Steps.{then}
use Rattle.text.specs.declared.call.Question.{Question}
use Rattle.text.specs.declared.call.Question.TheVariants.{Change, Rows, Page, Pages}
use Rattle.text.specs.declared.call.Verb.{Verb}
use Rattle.text.specs.declared.call.Verb.TheVariants as verb
use Rattle.text.specs.declared.fault.Fault.{Fault}
use Rattle.text.specs.declared.fault.Fault.TheVariants.{NoByte, NoMemory}
use Rattle.text.specs.Messages.{fault_in}
use Rattle.text.specs.Words.{words, parted, after_word, ended, next_number, last_number, number_and_text}

abbrev pub question_of : List ℕ → Question
question_of [] = Change
question_of (b ∷ bs) = cond (b == 3) Rows (cond (b == 4) Page (cond (b == 5) Pages Change))

unfoldable pub verb_of : List ℕ → Option Verb
verb_of w =
    cond (bytes_eq w (codes "put")) (Some verb.Put)
    (cond (bytes_eq w (codes "define")) (Some verb.Define)
    (cond (bytes_eq w (codes "cut")) (Some verb.Cut)
    (cond (bytes_eq w (codes "show")) (Some verb.Show)
    (cond (bytes_eq w (codes "where")) (Some verb.Where)
    (cond (bytes_eq w (codes "how")) (Some verb.How) (cond (bytes_eq w (codes "bytes")) (Some verb.Bytes) None))))))

abbrev pub tokens_in : List ℕ → Result (List ℕ) Fault
tokens_in bs = result_map_both (λ ws. ws) fault_in (noted bs)

abbrev pub with_tokens : ℕ → List ℕ → Result (List ℕ) Fault
with_tokens kind bs = then (number_and_text bs) (λ p. then (tokens_in p.1) (λ ws. Ok (kind ∷ (two p.0 ++ ws))))

-- 6 is put in, and 0 put
abbrev pub put_by : List ℕ → Option (List ℕ × List ℕ) → Result (List ℕ) Fault
put_by bs None = with_tokens 0 bs
put_by bs (Some p) = cond (bytes_eq p.0 (codes "in")) (with_tokens 6 p.1) (with_tokens 0 bs)

abbrev pub put_line : List ℕ → Result (List ℕ) Fault
put_line bs = put_by bs (parted bs)

abbrev pub cut_line : List (List ℕ) → Result (List ℕ) Fault
cut_line ws = then (last_number 65536 ws) (λ k. Ok (call_bytes (cut k)))

abbrev pub show_line : List (List ℕ) → Result (List ℕ) Fault
show_line ws =
    then (next_number 4294967296 ws) (λ page. then (next_number 65536 page.1) (λ row. then (last_number 65536 row.1) (λ count. Ok (call_bytes (show page.0 row.0 count)))))

abbrev pub where_line : List (List ℕ) → Result (List ℕ) Fault
where_line ws = then (after_word (codes "is") ws) (λ rest. then (last_number 65536 rest) (λ q. Ok (call_bytes (where_is q))))

abbrev pub how_line : List (List ℕ) → Result (List ℕ) Fault
how_line ws = then (after_word (codes "many") ws) (λ rest. then (ended rest) (λ _. Ok (call_bytes how_many)))

-- 0 to 9, A to F, a to f
abbrev pub hex_digit : ℕ → Result ℕ Fault
hex_digit b =
    cond (nat_le 48 b && nat_le b 57) (Ok (b - 48)) (cond (nat_le 65 b && nat_le b 70) (Ok (b - 65 + 10)) (cond (nat_le 97 b && nat_le b 102) (Ok (b - 97 + 10)) (Err NoByte)))

abbrev pub hex_byte : List ℕ → Result ℕ Fault
hex_byte [] = Err NoByte
hex_byte (b ∷ []) = Err NoByte
hex_byte (b ∷ (c ∷ [])) = then (hex_digit b) (λ m. then (hex_digit c) (λ n. Ok (16 * m + n)))
hex_byte (b ∷ (c ∷ (d ∷ bs))) = Err NoByte

unfoldable pub hex_line : List (List ℕ) → Result (List ℕ) Fault
hex_line [] = Ok []
hex_line (w ∷ ws) = then (hex_byte w) (λ b. then (hex_line ws) (λ bs. Ok (b ∷ bs)))

abbrev pub call_of : Verb → List ℕ → Result (List ℕ) Fault
call_of verb.Put bs = put_line bs
call_of verb.Define bs = with_tokens 2 bs
call_of verb.Cut bs = cut_line (words bs)
call_of verb.Show bs = show_line (words bs)
call_of verb.Where bs = where_line (words bs)
call_of verb.How bs = how_line (words bs)
call_of verb.Bytes bs = hex_line (words bs)

abbrev pub Made : List ℕ → Result (Vec ℕ Global) Fault → Type 0
Made bs r = MatchResult r (λ v. vec_items v ≡ bs) (λ e. e ≡ NoMemory)

abbrev pub Gives : Result (List ℕ) Fault → Result (Vec ℕ Global) Fault → Type 0
Gives said (Ok v) = said ≡ Ok (vec_items v)
Gives said (Err e) = (e ≡ NoMemory) ⊎ (said ≡ Err e)
