-- What a line says in words is the form of a call.
use Rattle.std.proofs.Common.{◌≡◌, ℕ, Bool, true, false, cond, List, ◌∷◌, ◌++◌, Some, None, Ok, Err, codes, Option, Result, refl}
use Rattle.std.specs.Result.{result_map_both}
use Rattle.std.specs.Str.{bytes_eq}
use Rattle.meaning.specs.Text.{Tokens, all_written}
use Rattle.meaning.specs.Calls.{Call, put, cut, define, show, where_is, how_many, put_in}
use Rattle.wire.specs.Bytes.{two, call_bytes, tokens_of}
use Rattle.notation.specs.declared.fault.Fault as notation
use Rattle.notation.specs.Noted.{noted}
use Rattle.notation.specs.Steps.{then}
use Rattle.notation.proofs.Closes.{notes_tokens}
use Rattle.notation.proofs.Thens.{then_ok}
use Rattle.text.specs.declared.call.Verb.TheVariants as verb
use Rattle.text.specs.Calls.{tokens_in, with_tokens, put_by}
use Rattle.text.specs.Laws.{LinesFormed}
use Rattle.text.specs.Messages.{fault_in}
use Rattle.text.specs.Words.{words, parted, after_word, ended, next_number, last_number, number_and_text}

abbrev Formed : List ℕ → Type 0
Formed bs = (c : Call) × (bs ≡ call_bytes c)

tokens_formed : (text ws : List ℕ) → tokens_in text ≡ Ok ws → ws ≡ all_written (tokens_of ws)
tokens_formed text ws e = go (noted text) refl e
  where
    go : (r : Result (List ℕ) notation.Fault) → noted text ≡ r → result_map_both (λ us. us) fault_in r ≡ Ok ws → ws ≡ all_written (tokens_of ws)
    go (Ok us) is f = notes_tokens text ws (cc)
    go (Err x) is f = cc

with_tokens_formed :
    (kind : ℕ) (make : ℕ → Tokens → Call) → ((k : ℕ) (ts : Tokens) → call_bytes (make k ts) ≡ kind ∷ (two k ++ all_written ts)) → (text bs : List ℕ) → with_tokens kind text ≡ Ok bs → Formed bs
with_tokens_formed kind make form text bs e =
    let n = then_ok (number_and_text text) (λ p. then (tokens_in p.1) (λ ws. Ok (kind ∷ (two p.0 ++ ws)))) bs e in
    let k = n.0.0 in
    let t = then_ok (tokens_in n.0.1) (λ ws. Ok (kind ∷ (two k ++ ws))) bs n.2 in
    let ws = t.0 in
    (make k (tokens_of ws), cc (t.2, tokens_formed n.0.1 ws t.1, form k (tokens_of ws)))

put_formed : (text bs : List ℕ) (o : Option (List ℕ × List ℕ)) → put_by text o ≡ Ok bs → Formed bs
unfolding call_bytes
put_formed text bs None e = with_tokens_formed 0 put (λ _ _. refl) text bs e
put_formed text bs (Some p) e = go (bytes_eq p.0 (codes "in")) e
  where
    go : (b : Bool) → cond b (with_tokens 6 p.1) (with_tokens 0 text) ≡ Ok bs → Formed bs
    go true f = with_tokens_formed 6 put_in (λ _ _. refl) p.1 bs f
    go false f = with_tokens_formed 0 put (λ _ _. refl) text bs f

-- what is given back in the end
last_formed : {A E : Type 0} (r : Result A E) (make : A → Call) (bs : List ℕ) → then r (λ x. Ok (call_bytes (make x))) ≡ Ok bs → Formed bs
last_formed r make bs e =
    let x = then_ok r (λ y. Ok (call_bytes (make y))) bs e in
    (make x.0, cc (x.2))

pub lines_formed : LinesFormed
unfolding call_bytes
lines_formed verb.Put line bs ne e = put_formed line bs (parted line) e
lines_formed verb.Define line bs ne e = with_tokens_formed 2 define (λ _ _. refl) line bs e
lines_formed verb.Cut line bs ne e = last_formed (last_number 65536 (words line)) cut bs e
lines_formed verb.Show line bs ne e =
    let page = then_ok (next_number 4294967296 (words line)) (λ p. then (next_number 65536 p.1) (λ row. then (last_number 65536 row.1) (λ count. Ok (call_bytes (show p.0 row.0 count))))) bs e in
    let p = page.0 in
    let row = then_ok (next_number 65536 p.1) (λ r. then (last_number 65536 r.1) (λ count. Ok (call_bytes (show p.0 r.0 count)))) bs page.2 in
    last_formed (last_number 65536 row.0.1) (show p.0 row.0.0) bs row.2
lines_formed verb.Where line bs ne e =
    let rest = then_ok (after_word (codes "is") (words line)) (λ ws. then (last_number 65536 ws) (λ q. Ok (call_bytes (where_is q)))) bs e in
    last_formed (last_number 65536 rest.0) where_is bs rest.2
lines_formed verb.How line bs ne e =
    let rest = then_ok (after_word (codes "many") (words line)) (λ ws. then (ended ws) (λ _. Ok (call_bytes how_many))) bs e in
    last_formed (ended rest.0) (λ _. how_many) bs rest.2
lines_formed verb.Bytes line bs ne e = absurd (ne refl)
