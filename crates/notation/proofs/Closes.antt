-- What is read closes just what is open: tokens, an end byte, and so on for each open brace, and tokens at the end.
use Rattle.std.proofs.Common.{◌≡◌, ℕ, zero, suc, Bool, true, false, cond, List, [], ◌∷◌, ◌++◌, length, Ok, codes, sym, refl, ap, ◌∙◌, subst, append_assoc}
use Rattle.std.specs.Str.{bytes_eq}
use Rattle.meaning.specs.Text.{Token, letter, space, mark, page_of, note, command, given, Tokens, none, more, written, all_written}
use Rattle.wire.specs.Bytes.{tokens_of}
use Rattle.wire.proofs.Parses.{tokens_of_all_written}
use Rattle.notation.specs.declared.piece.Piece.{Piece}
use Rattle.notation.specs.declared.piece.Piece.TheVariants.{Letter, Space, Mark, PageOf, Note, Command, Given, Close}
use Rattle.notation.specs.Pieces.{form_of, depth_after, first_piece}
use Rattle.notation.specs.Noted.{all_closed, piece_then, noted_in, noted_from, noted}
use Rattle.notation.specs.Laws.{NotesTokens}
use Rattle.notation.specs.Steps.{in_front}
use Rattle.notation.proofs.Thens.{then_ok}

Closes : ℕ → List ℕ → Type 0
Closes zero bs = (ts : Tokens) × (bs ≡ all_written ts)
Closes (suc depth) bs = (ts : Tokens) × (rest : List ℕ) × (bs ≡ all_written ts ++ (7 ∷ rest)) × Closes depth rest

closes_token : (depth : ℕ) (t : Token) (bs : List ℕ) → Closes depth bs → Closes depth (written t ++ bs)
unfolding Closes
closes_token zero t bs (ts, e) = (more t ts, ap (λ cs. written t ++ cs) e)
closes_token (suc depth) t bs (ts, rest, e, k) = (more t ts, rest, ap (λ cs. written t ++ cs) e ∙ sym (append_assoc (written t) (all_written ts) (7 ∷ rest)), k)

closes_open :
    (make : Tokens → Token) (opener : List ℕ) → ((ts : Tokens) → written (make ts) ≡ opener ++ (all_written ts ++ (7 ∷ []))) → (depth : ℕ) (bs : List ℕ) → Closes (suc depth) bs →
    Closes depth (opener ++ bs)
unfolding Closes
closes_open make opener opens depth bs (ts, rest, e, k) =
    subst (Closes depth) (rw (opens ts, e, append_assoc, append_assoc) refl) (closes_token depth (make ts) rest k)

closes_piece : (p : Piece) (depth d : ℕ) (bs : List ℕ) → depth_after p depth ≡ Ok d → Closes d bs → Closes depth (form_of p ++ bs)
unfolding Closes
closes_piece (Letter b) depth d bs e k = let same : d ≡ depth = cc in closes_token depth (letter b) bs (rw same at k)
closes_piece Space depth d bs e k = let same : d ≡ depth = cc in closes_token depth space bs (rw same at k)
closes_piece (Mark n) depth d bs e k = let same : d ≡ depth = cc in closes_token depth (mark n) bs (rw same at k)
closes_piece (PageOf n) depth d bs e k = let same : d ≡ depth = cc in closes_token depth (page_of n) bs (rw same at k)
closes_piece Note depth d bs e k = let same : d ≡ suc depth = cc in closes_open note (4 ∷ []) (λ _. refl) depth bs (rw same at k)
closes_piece (Command n) depth d bs e k = let same : d ≡ suc depth = cc in closes_open (command n) (5 ∷ (n ∷ [])) (λ _. refl) depth bs (rw same at k)
closes_piece Given depth d bs e k = let same : d ≡ depth = cc in closes_token depth given bs (rw same at k)
closes_piece Close zero d bs e k = cc
closes_piece Close (suc depth) d bs e k = let same : d ≡ depth = cc in (none, bs, refl, rw same at k)

closes_end : (depth : ℕ) (ws : List ℕ) → all_closed depth ≡ Ok ws → Closes depth ws
unfolding Closes
closes_end zero ws e = let same : ws ≡ [] = cc in (none, same)
closes_end (suc depth) ws e = cc

closes_noted : (n depth : ℕ) (bs ws : List ℕ) → noted_in n depth bs ≡ Ok ws → Closes depth ws
unfolding noted_in
closes_noted n depth [] ws e = closes_end depth ws e
closes_noted zero depth (b ∷ bs) ws e = cc
closes_noted (suc n) depth (b ∷ bs) ws e =
    let piece = then_ok (first_piece b bs) (piece_then (noted_in n) depth) ws e in
    let p = piece.0 in
    let deep = then_ok (depth_after p.0 depth) (λ d. in_front (form_of p.0) (noted_in n d p.1)) ws piece.2 in
    let said = then_ok (noted_in n deep.0 p.1) (λ more. Ok (form_of p.0 ++ more)) ws deep.2 in
    let same : form_of p.0 ++ said.0 ≡ ws = cc said.2 in
    subst (Closes depth) same (closes_piece p.0 depth deep.0 said.0 deep.1 (closes_noted n deep.0 p.1 said.0 said.1))

form_from : (bs : List ℕ) → Closes 0 bs → bs ≡ all_written (tokens_of bs)
unfolding Closes
form_from bs (ts, e) = rw (e, tokens_of_all_written ts) refl

pub notes_tokens : NotesTokens
unfolding noted Closes
notes_tokens text ws e = go (bytes_eq text (92 ∷ codes "none")) e
  where
    go : (b : Bool) → cond b (Ok []) (noted_from 0 text) ≡ Ok ws → ws ≡ all_written (tokens_of ws)
    go true f = let same : ws ≡ [] = cc in form_from ws (none, same)
    go false f = form_from ws (closes_noted (length text) 0 text ws f)
