-- Whether paragraphs fit, by how much they are together, for a text without definitions.
use Rattle.std.proofs.Common.{◌≡◌, ℕ, ◌+◌, ◌*◌, ◌≤◌, Bool, true, false, ◌&&◌, leb, List, [], ◌∷◌, ◌++◌, length, sym, refl, ap, ◌∙◌, add-zero, arith}
use mathlib.Core.Bool.{and-true, and_assoc}
use Rattle.std.proofs.lemmas.Bool.{and_parts, le-leb, leb-true}
use Rattle.meaning.specs.Text.{Tokens, Definition, atoms}
use Rattle.meaning.specs.Calls.{Limits, Text, sizes, def_sizes, bulk, short_all, fits}
use Rattle.meaning.proofs.Reached.{GoodTokens}
use Rattle.meaning.proofs.Nameless.{Nameless}
use Rattle.wire.specs.Stage.{stage_tokens}
use Rattle.machine.specs.Setter.{bulk_of}
use Rattle.machine.proofs.Rows.{forms, bulks, length_forms}

abbrev pub Good : Tokens → Type 0
Good p = GoodTokens stage_tokens p

pub nameless : Nameless stage_tokens
unfolding stage_tokens
nameless = record { marks = refl; numbers = refl; commands = refl; given = refl }

-- none or one
short_one : (b : ℕ) (ps : List Tokens) → length ps ≤ 1 → short_all b [] ps ≡ leb (bulks ps) b
unfolding short_all
short_one b [] h = sym (le-leb 0 b (omega arith))
short_one b (p ∷ []) h = rw (add-zero (bulk_of p)) (and-true (leb (bulk_of p) b))
short_one b (p ∷ (q ∷ ps)) h = absurd (omega arith)

short_append : (b : ℕ) (ds : List Definition) (ps qs : List Tokens) → short_all b ds (ps ++ qs) ≡ (short_all b ds ps && short_all b ds qs)
unfolding short_all
short_append b ds [] qs = refl
short_append b ds (p ∷ ps) qs =
    let fit : Bool = leb (bulk (atoms ds (λ l. 99999999) p)) b in
    ap (λ (t : Bool). fit && t) (short_append b ds ps qs) ∙ sym (and_assoc fit (short_all b ds ps) (short_all b ds qs))

-- a text without definitions
abbrev pub plain : List Tokens → Text
plain ps = record { definitions = []; paragraphs = ps }

pub record Fitting (l : Limits) (ps : List Tokens) : Type 0 where
  pub paragraphs_few : length ps ≤ l.paragraphs
  pub tokens_few : sizes ps ≤ l.tokens
  pub all_short : short_all l.bulk [] ps ≡ true

pub fitting : (l : Limits) (ps : List Tokens) → fits l (plain ps) ≡ true → Fitting l ps
unfolding def_sizes
fitting l ps e =
    let halves = and_parts (leb (length ps) l.paragraphs && leb 0 l.definitions) _ e in
    let counts = and_parts (leb (length ps) l.paragraphs) _ halves.0 in
    let rest = and_parts (leb (sizes ps + 0) l.tokens) _ halves.1 in
    record {
      paragraphs_few = leb-true _ _ counts.0;
      tokens_few = omega (arith, leb-true (sizes ps + 0) l.tokens rest.0);
      all_short = rest.1;
    }

-- with one paragraph for another, the four tests of room are those of the text's fit: bytes are at most two for a token
pub fits_room :
    (l : Limits) (ps olds qs news : List Tokens) → length news ≤ 1 → fits l (plain (ps ++ (olds ++ qs))) ≡ true →
    (leb (bulks news) l.bulk
    && ((leb (length (ps ++ (news ++ qs))) l.paragraphs && leb 0 l.definitions)
    && (leb (sizes (ps ++ (news ++ qs)) + 0) l.tokens && (leb (length (forms (ps ++ (news ++ qs)))) (2 * l.tokens) && leb 0 (2 * l.tokens)))))
    ≡ fits l (plain (ps ++ (news ++ qs)))
unfolding def_sizes
fits_room l ps olds qs news one e =
    let us : List Tokens = ps ++ (news ++ qs) in
    let b : ℕ = l.bulk in
    let before = and_parts (short_all b [] ps) (short_all b [] (olds ++ qs)) (sym (short_append b [] ps (olds ++ qs)) ∙ (fitting l (ps ++ (olds ++ qs)) e).all_short) in
    let behind = and_parts (short_all b [] olds) (short_all b [] qs) (sym (short_append b [] olds qs) ∙ before.1) in
    let short : short_all b [] us ≡ (leb (bulks news) b && true) =
    short_append b [] ps (news ++ qs) ∙ rw (before.0, short_append b [] news qs, behind.1, short_one b news one) refl in
    rw (short, le-leb 0 l.definitions (omega arith), le-leb 0 (2 * l.tokens) (omega arith))
    (same (leb (bulks news) b) (leb (length us) l.paragraphs) (leb (sizes us + 0) l.tokens) _
    (λ h. le-leb (length (forms us)) (2 * l.tokens) (omega (arith, length_forms us, leb-true (sizes us + 0) l.tokens h))))
  where
    same : (x a s y : Bool) → (s ≡ true → y ≡ true) → (x && ((a && true) && (s && (y && true)))) ≡ ((a && true) && (s && (x && true)))
    same true true true y h = ap (λ (t : Bool). t && true) (h refl)
    same true true false y h = refl
    same true false s y h = refl
    same false true true y h = refl
    same false true false y h = refl
    same false false s y h = refl
