-- What memory holds when a text has these paragraphs: what is free is 0, so that it is a function of them.
use Rattle.std.proofs.Common.{◌≡◌, ℕ, ◌+◌, ◌-◌, ◌*◌, List, [], ◌∷◌, ◌++◌, length, get_or, set, replicate, sym, refl, ap, ◌∙◌, subst, arith, lit<}
use Rattle.std.proofs.lemmas.List.{append_assoc, append-nil, length-append}
use Rattle.meaning.specs.Text.{Tokens}
use Rattle.meaning.specs.Calls.{Limits, sizes}
use Rattle.meaning.specs.Pages.{Looks}
use Rattle.meaning.specs.Promise.{Memory}
use Rattle.store.specs.Opened.{header, tokens_asked, kept_asked, words_asked, opened, rest_of}
use Rattle.store.specs.Kept.{table_sum}
use Rattle.machine.proofs.Splices.{padded}
use Rattle.machine.proofs.Rows.{forms, entry, entries, forms_append, sizes_append, table_sum_of}

-- the header with what there is: paragraphs, their size, their bytes
unfoldable pub header_at : Limits → Looks → ℕ → ℕ → ℕ → List ℕ
header_at l g n s b = set (set (set (header l g) 4 n) 5 s) 6 b

abbrev pub header_for : Limits → Looks → List Tokens → List ℕ
header_for l g ps = header_at l g (length ps) (sizes ps) (length (forms ps))

abbrev pub kept_for : Limits → Looks → List Tokens → List ℕ
kept_for l g ps = padded (kept_asked l) (header_for l g ps ++ entries ps)

unfoldable pub memory : Limits → Looks → List Tokens → Memory
memory l g ps = record { tokens = padded (tokens_asked l) (forms ps); words = replicate (words_asked l) 0; kept = kept_for l g ps }

pub length_header_at : (l : Limits) (g : Looks) (n s b : ℕ) → length (header_at l g n s b) ≡ 64
unfolding header_at header
length_header_at l g n s b = refl

pub opened_memory : (l : Limits) (g : Looks) → opened l g ≡ memory l g []
unfolding opened memory header_at header sizes
opened_memory l g =
    let tokens : tokens_asked l - 0 ≡ tokens_asked l = omega arith in
    let kept : kept_asked l - 64 ≡ 4 * l.paragraphs = omega arith in
    rw (tokens, kept) refl

-- a row of numbers that says this of the paragraphs, whatever stands behind the table
pub record Tells (l : Limits) (g : Looks) (ts : List Tokens) (rs : List ℕ) : Type 0 where
  pub most_paragraphs : get_or rs 0 0 ≡ l.paragraphs
  pub most_tokens : get_or rs 1 0 ≡ l.tokens
  pub most_definitions : get_or rs 2 0 ≡ l.definitions
  pub most_bulk : get_or rs 3 0 ≡ l.bulk
  pub paragraphs : get_or rs 4 0 ≡ length ts
  pub size : get_or rs 5 0 ≡ sizes ts
  pub bytes : get_or rs 6 0 ≡ length (forms ts)
  pub definitions : get_or rs 7 0 ≡ 0
  pub defined_size : get_or rs 8 0 ≡ 0
  pub defined_bytes : get_or rs 9 0 ≡ 0
  pub across : get_or rs 10 0 ≡ g.across
  pub rows : get_or rs 11 0 ≡ g.rows
  pub first_bytes : (ps qs : List Tokens) → ts ≡ ps ++ qs → table_sum 64 (length ps) rs ≡ length (forms ps)
  pub first_sizes : (ps qs : List Tokens) → ts ≡ ps ++ qs → table_sum 65 (length ps) rs ≡ sizes ps

bytes_one_more : (ps : List Tokens) (p : Tokens) → length (forms (ps ++ (p ∷ []))) ≡ length (forms ps) + get_or (entry p) 0 0
bytes_one_more ps p = simp (forms_append, length-append, append-nil) refl

size_one_more : (ps : List Tokens) (p : Tokens) → sizes (ps ++ (p ∷ [])) ≡ sizes ps + get_or (entry p) 1 0
unfolding sizes
size_one_more ps p = sizes_append ps (p ∷ []) ∙ omega arith

tells : (l : Limits) (g : Looks) (ts : List Tokens) (rest : List ℕ) → Tells l g ts ((header_for l g ts ++ entries ts) ++ rest)
unfolding header_at header sizes
tells l g ts rest =
    let long = length_header_at l g (length ts) (sizes ts) (length (forms ts)) in
    record {
      most_paragraphs = refl;
      most_tokens = refl;
      most_definitions = refl;
      most_bulk = refl;
      paragraphs = refl;
      size = refl;
      bytes = refl;
      definitions = refl;
      defined_size = refl;
      defined_bytes = refl;
      across = refl;
      rows = refl;
      first_bytes = λ ps qs e.
          ap (λ us. table_sum 64 (length ps) ((header_for l g ts ++ entries us) ++ rest)) e
          ∙ table_sum_of 0 (lit< tt) (λ us. length (forms us)) refl bytes_one_more (header_for l g ts) ps qs rest long;
      first_sizes = λ ps qs e.
          ap (λ us. table_sum 65 (length ps) ((header_for l g ts ++ entries us) ++ rest)) e
          ∙ table_sum_of 1 (lit< tt) sizes refl size_one_more (header_for l g ts) ps qs rest long;
    }

pub kept_tells : (l : Limits) (g : Looks) (ts : List Tokens) → Tells l g ts (memory l g ts).kept
unfolding memory
kept_tells l g ts = tells l g ts _

pub rest_tells : (l : Limits) (g : Looks) (ts : List Tokens) → Tells l g ts (rest_of (memory l g ts))
unfolding memory
rest_tells l g ts = subst (Tells l g ts) (sym (append_assoc (header_for l g ts ++ entries ts) _ (replicate (words_asked l) 0))) (tells l g ts _)

-- and where more numbers were lent than asked for
pub longer_tells : (l : Limits) (g : Looks) (ts : List Tokens) (more : List ℕ) → Tells l g ts (rest_of (memory l g ts) ++ more)
unfolding memory
longer_tells l g ts more =
    subst (Tells l g ts)
    (sym (append_assoc (kept_for l g ts) (replicate (words_asked l) 0) more ∙ append_assoc (header_for l g ts ++ entries ts) _ (replicate (words_asked l) 0 ++ more)))
    (tells l g ts _)
