-- The first token of bytes, by its form.
use Rattle.std.proofs.Common.{◌≡◌, ℕ, suc, ◌+◌, ◌-◌, ◌<◌, List, [], ◌∷◌, ◌++◌, length, take, drop, Some, None, sym, refl, ap, ◌∙◌, ap₂, subst₂, arith, Bor}
use Rattle.std.proofs.lemmas.List.{append_assoc, length-append, take_at, drop_at, drop-drop}
use Rattle.meaning.specs.Text.{none, written, all_written}
use Rattle.meaning.specs.Text
use Rattle.wire.specs.Bytes.{Parsed, whole, broken, closed, token_first, parsed_in, parsed, parsed_tokens, tokens_of}
use Rattle.wire.specs.Kinds.{token_byte, Numbered}
use Rattle.wire.specs.declared.kind.TokenKind.{TokenKind}
use Rattle.wire.specs.declared.kind.TokenKind.TheVariants as Kinds
use Rattle.wire.specs.declared.token.Token.{Token}
use Rattle.wire.specs.declared.token.Token.TheVariants.{Note, Command}
use Rattle.wire.specs.declared.token.Extent.{Extent}
use Rattle.wire.specs.declared.token.Extent.TheVariants.{End, Close, Break}
use Rattle.wire.specs.Cut.{extent_in, extent_of, enclosed_by, enclosed_in, token_of, WholePart, First}
use Rattle.wire.proofs.Parses.{parsed_end, parsed_unknown, parsed_note, parsed_command, tokens_of_written, tokens_of_all_written}
use Rattle.wire.proofs.Courses.{parsed_whole}

pub first_from_form : (bs : List ℕ) (t : Token) (rest : List ℕ) → bs ≡ written (token_of t) ++ rest → WholePart t → First bs t rest
first_from_form bs t rest e w =
    record {
      tokens = ap tokens_of e ∙ tokens_of_written (token_of t) rest;
      form = e;
      part = w;
    }

-- what is enclosed is just the form of tokens, and an end byte stands behind it
pub record Enclosed (bs inside rest : List ℕ) : Type 0 where
  pub tokens : inside ≡ all_written (tokens_of inside)
  pub form : bs ≡ inside ++ (7 ∷ rest)

drop_past : (xs : List ℕ) (y : ℕ) (ys : List ℕ) → drop (length xs + 1) (xs ++ (y ∷ ys)) ≡ ys
drop_past xs y ys = sym (drop-drop 1 (length xs) (xs ++ (y ∷ ys))) ∙ ap (drop 1) (drop_at xs (y ∷ ys) (length xs) refl)

closed_at : (bs : List ℕ) (ts : Text.Tokens) (x : ℕ) (left : List ℕ) (n : ℕ) → bs ≡ all_written ts ++ (x ∷ left) → x ≡ 7 → n ≡ length bs - suc (length left) →
    (n < length bs) × Enclosed bs (take n bs) (drop (n + 1) bs)
closed_at bs ts x left n form seven at =
    let long : length bs ≡ length (all_written ts) + suc (length left) = ap length form ∙ length-append (all_written ts) (x ∷ left) in
    let here : n ≡ length (all_written ts) = omega arith in
    let inside : take n bs ≡ all_written ts = ap₂ take here form ∙ take_at (all_written ts) (x ∷ left) (length (all_written ts)) refl in
    let behind : drop (n + 1) bs ≡ left = ap₂ (λ m xs. drop (m + 1) xs) here form ∙ drop_past (all_written ts) x left in (
      omega arith,
      record {
        tokens = inside ∙ ap all_written (sym (tokens_of_all_written ts) ∙ ap tokens_of (sym inside));
        form = form ∙ (ap (λ y. all_written ts ++ (y ∷ left)) seven ∙ ap₂ (λ xs ys. xs ++ (7 ∷ ys)) (sym inside) (sym behind));
      },
    )

pub closes_within : (bs : List ℕ) (n : ℕ) → Close n ≡ extent_of bs → (n < length bs) × Enclosed bs (take n bs) (drop (n + 1) bs)
closes_within bs n e = go (parsed bs) refl e
  where
    go : (p : Parsed) → parsed bs ≡ p → Close n ≡ extent_in bs p → (n < length bs) × Enclosed bs (take n bs) (drop (n + 1) bs)
    go (whole ts []) q f = absurd (cc)
    go (whole ts (x ∷ left)) q f =
        let w = parsed_whole bs ts (x ∷ left) q in
        closed_at bs ts x left n w.0 w.1 cc
    go (broken ts left) q f = absurd (cc)

pub enclosed_some : (bs inside rest : List ℕ) → Some (inside, rest) ≡ enclosed_in bs → Enclosed bs inside rest
enclosed_some bs inside rest e = go (extent_of bs) refl e
  where
    go : (x : Extent) → extent_of bs ≡ x → Some (inside, rest) ≡ enclosed_by bs x → Enclosed bs inside rest
    go End q f = absurd (cc)
    go (Close n) q f =
        let both : ◌≡◌ {A = List ℕ × List ℕ} (take n bs, drop (n + 1) bs) (inside, rest) = cc in
        subst₂ (Enclosed bs) (ap (λ p. p.0) both) (ap (λ p. p.1) both) (closes_within bs n (sym q)).1
    go (Break n) q f = absurd (cc)

pub enclosed_none : (bs : List ℕ) (make : Text.Tokens → Text.Token) → None ≡ enclosed_in bs → parsed_tokens (closed make parsed (parsed bs)) ≡ none
enclosed_none bs make e = go (parsed bs) e
  where
    go : (p : Parsed) → None ≡ enclosed_by bs (extent_in bs p) → parsed_tokens (closed make parsed p) ≡ none
    go (whole ts []) f = refl
    go (whole ts (x ∷ left)) f = absurd (cc)
    go (broken ts left) f = refl

-- bytes that begin as no token does
pub none_first : (bs : List ℕ) (x : ℕ) (rest : List ℕ) → bs ≡ x ∷ rest → 7 < x → tokens_of bs ≡ none
none_first bs x rest e h = ap tokens_of e ∙ ap parsed_tokens (parsed_unknown x rest h)

-- a letter or a number that is missing
pub number_missing : (k : TokenKind) → Numbered k → tokens_of (token_byte k ∷ []) ≡ none
unfolding parsed_in token_first
number_missing Kinds.Letter n = refl
number_missing Kinds.Space n = absurd (n.0 refl)
number_missing Kinds.Mark n = refl
number_missing Kinds.PageOf n = refl
number_missing Kinds.Note n = absurd (n.1 refl)
number_missing Kinds.Command n = refl
number_missing Kinds.Given n = absurd (n.2 refl)
number_missing Kinds.End n = refl

-- what is left of the kinds is the end byte
pub end_first : (k : TokenKind) (rest : List ℕ) → Numbered k → (k ≡ Kinds.Letter → ⊥) → (k ≡ Kinds.Mark → ⊥) → (k ≡ Kinds.PageOf → ⊥) → (k ≡ Kinds.Command → ⊥) →
    tokens_of (token_byte k ∷ rest) ≡ none
end_first Kinds.Letter rest n a b c d = absurd (a refl)
end_first Kinds.Space rest n a b c d = absurd (n.0 refl)
end_first Kinds.Mark rest n a b c d = absurd (b refl)
end_first Kinds.PageOf rest n a b c d = absurd (c refl)
end_first Kinds.Note rest n a b c d = absurd (n.1 refl)
end_first Kinds.Command rest n a b c d = absurd (d refl)
end_first Kinds.Given rest n a b c d = absurd (n.2 refl)
end_first Kinds.End rest n a b c d = ap parsed_tokens (parsed_end rest)

-- a note or a command that is not closed
pub note_unclosed : (rest : List ℕ) → None ≡ enclosed_in rest → tokens_of (4 ∷ rest) ≡ none
note_unclosed rest u = ap parsed_tokens (parsed_note rest) ∙ enclosed_none rest Text.note u

pub command_unclosed : (k : ℕ) (rest : List ℕ) → None ≡ enclosed_in rest → tokens_of (5 ∷ (k ∷ rest)) ≡ none
command_unclosed k rest u = ap parsed_tokens (parsed_command k rest) ∙ enclosed_none rest (Text.command k) u

-- and one that is
module _ (rest : List ℕ) (inside behind : Bor (List ℕ)) (u : Some (inside.now, behind.now) ≡ enclosed_in rest) where
  parts : Enclosed rest inside.now behind.now
  parts = enclosed_some rest inside.now behind.now u

  ended : rest ≡ (all_written (tokens_of inside.now) ++ (7 ∷ [])) ++ behind.now
  ended = parts.form ∙ (ap (λ xs. xs ++ (7 ∷ behind.now)) parts.tokens ∙ sym (append_assoc (all_written (tokens_of inside.now)) (7 ∷ []) behind.now))

  pub note_first : First (4 ∷ rest) (Note inside) behind.now
  note_first = first_from_form (4 ∷ rest) (Note inside) behind.now (ap (λ xs. 4 ∷ xs) ended) parts.tokens

  pub command_first : (k : ℕ) → First (5 ∷ (k ∷ rest)) (Command k inside) behind.now
  command_first k = first_from_form (5 ∷ (k ∷ rest)) (Command k inside) behind.now (ap (λ xs. 5 ∷ (k ∷ xs)) ended) parts.tokens
