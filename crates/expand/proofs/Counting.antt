-- Tokens counted one by one, with numbers that stop past the limit.
use Rattle.std.proofs.Common.{◌≡◌, ℕ, suc, ◌≤◌, true, leb, ltb, List, [], ◌∷◌, length, slice_index_or, Fits, w8, sym, refl, ap, ◌∙◌, add-zero, arith}
use Rattle.std.proofs.lemmas.Bool.{and_from, lt-ltb}
use Rattle.meaning.specs.Text.{Tokens, none, Definition, atoms}
use Rattle.meaning.specs.Calls.{bulk}
use Rattle.meaning.specs.Promise.{all_below}
use Rattle.meaning.specs.Sizes.{nothing, together, footed, given_to, form_one, form_of, stopped, stopped_at, eight_digits}
use Rattle.meaning.specs.Sizes
use Rattle.meaning.proofs.Sizes.{stopped_twice, given_alike, all_same_below, paragraph_within}
use Rattle.wire.specs.Bytes.{tokens_of}
use Rattle.wire.proofs.Courses.{tokens_in_bytes}
use Rattle.expand.specs.Forms.{meant, row_form, RowsAt}
use Rattle.expand.specs.declared.form.Form.{Form}

together_nothing : (f : Sizes.Form) → together f nothing ≡ f
together_nothing f =
    let owns = add-zero f.own in
    let givens = add-zero f.given in
    let noteds = add-zero f.noted in
    let texts = add-zero f.text in
    let texts_given = add-zero f.text_given in
    λ i. record { own = owns i; given = givens i; noted = noteds i; text = texts i; text_given = texts_given i }

-- what was counted so far, and what is left of all
pub record Counted (bs : List ℕ) (forms : ℕ → Sizes.Form) (most : ℕ) (f : Form) (left : List ℕ) : Type 0 where
  pub all : stopped most (form_of (tokens_of bs) forms) ≡ stopped most (together (meant f) (form_of (tokens_of left) forms))
  pub stops : stopped most (meant f) ≡ meant f
  pub short : length left ≤ length bs

module _ (bs : List ℕ) (forms : ℕ → Sizes.Form) (most : ℕ) where
  pub all_counted : (f : Form) (left : List ℕ) → Counted bs forms most f left → tokens_of left ≡ none → meant f ≡ stopped most (form_of (tokens_of bs) forms)
  all_counted f left c e =
      sym (c.all ∙ ap (λ ts. stopped most (together (meant f) (form_of ts forms))) e ∙ ap (stopped most) (together_nothing (meant f)) ∙ c.stops)

-- a note, and a command with its row, by what is in them
module _ (most : ℕ) (f : Sizes.Form) (g : Form) (e : meant g ≡ stopped most f) where
  inside : stopped most (meant g) ≡ stopped most f
  inside = ap (stopped most) e ∙ stopped_twice most f

  pub command_counted : (c : Sizes.Form) → stopped most (given_to c (meant g)) ≡ stopped most (given_to c f)
  command_counted c = given_alike most c c (meant g) f refl inside

-- of a slice of bytes
bytes_below : (bs : List ℕ) → ((i : ℕ) → Fits w8 (slice_index_or bs i 0)) → all_below 256 bs ≡ true
unfolding all_below
bytes_below [] h = refl
bytes_below (x ∷ bs) h = and_from (ltb x 256) (all_below 256 bs) (lt-ltb x 256 (omega (arith, h 0))) (bytes_below bs (λ i. h (suc i)))

-- with the rows of one depth
pub by_rows :
    (bs : List ℕ) (most n : ℕ) (ds : List Definition) (forms : List ℕ) (f : Sizes.Form) → ((i : ℕ) → Fits w8 (slice_index_or bs i 0)) → RowsAt most n ds forms →
    f ≡ stopped most (form_of (tokens_of bs) (row_form forms)) → f ≡ stopped most (form_of (tokens_of bs) (stopped_at most n ds))
by_rows bs most n ds forms f b rows e =
    e ∙ ap (stopped most) (all_same_below (row_form forms) (stopped_at most n ds) rows (tokens_of bs) (tokens_in_bytes bs (bytes_below bs b)))

pub own_within :
    (most : ℕ) (ds : List Definition) (ts : Tokens) (f : Form) → meant f ≡ stopped most (form_of ts (stopped_at most 16 ds)) →
    leb f.own most ≡ leb (bulk (atoms ds eight_digits ts)) most
own_within most ds ts f e = ap (λ (g : Sizes.Form). leb g.own most) e ∙ sym (paragraph_within most ds ts)
