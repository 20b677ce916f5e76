-- Memory that is an open book, and memory that is not.
use Rattle.std.proofs.Common.{◌≡◌, ℕ, ◌+◌, ◌*◌, ◌/◌, ◌%◌, ◌<◌, ◌≤◌, min, Bool, true, false, ◌&&◌, not, eqb, leb, ◌⊎◌, List, length, get_or, take, drop, Some, None, sum_by, sym, refl, ap, ◌∙◌, ap₂, subst, inl, inr, arith, lit<}
use Rattle.std.proofs.lemmas.List.{get_or-take, length-take-le}
use Rattle.std.proofs.lemmas.List.FromFn.{fill_by_all, length-map-range_with_len, get_or-map-range_with_len}
use Rattle.std.specs.Simd.{first_chunks}
use Rattle.std.proofs.lemmas.Bool.{lt-leb, le-leb, leb-true, eq-eqb, ne_eqb, and_left, and_right, and_cases, and_from, and_parts, not-true, not-false, cases_lt}
use Rattle.meaning.specs.Text.{pick}
use Rattle.meaning.proofs.Picks.{some_picked}
use Rattle.store.specs.Opened.{limits_of, tokens_asked, rest_asked}
use Rattle.store.specs.Kept.{limits_at, limits_kept, kept_at, looks_kept, counts_kept, table_kept, table_sum, long_enough, entries_at, first_definition, counts_at, definitions_at, counts_within, adds_up, bytes_of, unpacked, widths_at, is_open}
use Rattle.store.specs.Counted.{largest, counts_in, OpenBook}
use Rattle.store.specs.declared.kept.Counts.{Counts}
use Rattle.store.specs.declared.kept.Kept.{Kept}
use Rattle.store.specs.declared.opening.Limits.{Limits}
use Rattle.store.proofs.Tables.{table_sum_take, length_table, length_entries, sum_of_entries}

module _ (bytes : ℕ) (rs : List ℕ) where
  limits_fail : limits_kept rs ≡ false → is_open bytes rs ≡ false
  unfolding is_open
  limits_fail e = and_left (limits_kept rs) _ e

  not_long : long_enough bytes rs ≡ false → is_open bytes rs ≡ false
  unfolding is_open
  not_long e = and_right (limits_kept rs) _ (and_left (long_enough bytes rs) _ e)

  looks_fail : looks_kept rs ≡ false → is_open bytes rs ≡ false
  unfolding is_open
  looks_fail e = and_right (limits_kept rs) _ (and_right (long_enough bytes rs) _ (and_left (looks_kept rs) _ e))

  counts_fail : counts_kept rs ≡ false → is_open bytes rs ≡ false
  unfolding is_open
  counts_fail e = and_right (limits_kept rs) _ (and_right (long_enough bytes rs) _ (and_right (looks_kept rs) _ (and_left (counts_kept rs) _ e)))

  table_fails : table_kept rs ≡ false → is_open bytes rs ≡ false
  unfolding is_open
  table_fails e = and_right (limits_kept rs) _ (and_right (long_enough bytes rs) _ (and_right (looks_kept rs) _ (and_right (counts_kept rs) _ e)))

  head_fails : (limits_kept rs && looks_kept rs) ≡ false → is_open bytes rs ≡ false
  head_fails e = elim (and_cases (limits_kept rs) (looks_kept rs) e) [ inl l ↦ limits_fail l | inr l ↦ looks_fail l ]

  pub tokens_short : bytes < tokens_asked (limits_of (limits_at rs)) → is_open bytes rs ≡ false
  tokens_short h = not_long (and_left _ _ (lt-leb (tokens_asked (limits_of (limits_at rs))) bytes h))

  pub rest_short : length rs < rest_asked (limits_of (limits_at rs)) → is_open bytes rs ≡ false
  rest_short h = not_long (and_right _ _ (lt-leb (rest_asked (limits_of (limits_at rs))) (length rs) h))

-- what is_open tells
pub record OpenParts (bytes : ℕ) (rs : List ℕ) : Type 0 where
  pub limits : limits_kept rs ≡ true
  pub bytes_enough : tokens_asked (limits_of (limits_at rs)) ≤ bytes
  pub numbers_enough : rest_asked (limits_of (limits_at rs)) ≤ length rs
  pub looks : looks_kept rs ≡ true
  pub counts : counts_kept rs ≡ true
  pub table : table_kept rs ≡ true

pub open_parts : (bytes : ℕ) (rs : List ℕ) → is_open bytes rs ≡ true → OpenParts bytes rs
unfolding is_open
open_parts bytes rs e =
    let a = and_parts (limits_kept rs) _ e in
    let b = and_parts (long_enough bytes rs) _ a.1 in
    let long = and_parts (leb (tokens_asked (limits_of (limits_at rs))) bytes) _ b.0 in
    let c = and_parts (looks_kept rs) _ b.1 in
    let d = and_parts (counts_kept rs) _ c.1 in
    record {
      limits = a.0;
      bytes_enough = leb-true _ _ long.0;
      numbers_enough = leb-true _ _ long.1;
      looks = c.0;
      counts = d.0;
      table = d.1;
    }

pub open_from_parts : (bytes : ℕ) (rs : List ℕ) → OpenParts bytes rs → is_open bytes rs ≡ true
unfolding is_open
open_from_parts bytes rs p =
    and_from _ _ p.limits
    (and_from _ _ (and_from _ _ (le-leb _ _ p.bytes_enough) (le-leb _ _ p.numbers_enough)) (and_from _ _ p.looks (and_from _ _ p.counts p.table)))

-- so many paragraphs and definitions are within limits
pub record Within (p d : Counts) (l : Limits) : Type 0 where
  pub paragraphs : p.entries ≤ l.paragraphs
  pub definitions : d.entries ≤ l.definitions
  pub sizes : p.size + d.size ≤ l.tokens
  pub bytes : p.bytes ≤ 2 * l.tokens
  pub defined_bytes : d.bytes ≤ 2 * l.tokens

pub within_parts : (p d : Counts) (l : Limits) → counts_within p d l ≡ true → Within p d l
within_parts p d l e =
    let halves = and_parts (leb p.entries l.paragraphs && leb d.entries l.definitions) _ e in
    let entries = and_parts (leb p.entries l.paragraphs) _ halves.0 in
    let rest = and_parts (leb (p.size + d.size) l.tokens) _ halves.1 in
    let bytes = and_parts (leb p.bytes (2 * l.tokens)) _ rest.1 in
    record {
      paragraphs = leb-true _ _ entries.0;
      definitions = leb-true _ _ entries.1;
      sizes = leb-true _ _ rest.0;
      bytes = leb-true _ _ bytes.0;
      defined_bytes = leb-true _ _ bytes.1;
    }

pub within_from_parts : (p d : Counts) (l : Limits) → Within p d l → counts_within p d l ≡ true
within_from_parts p d l w =
    and_from _ _ (and_from _ _ (le-leb _ _ w.paragraphs) (le-leb _ _ w.definitions))
    (and_from _ _ (le-leb _ _ w.sizes) (and_from _ _ (le-leb _ _ w.bytes) (le-leb _ _ w.defined_bytes)))

-- the same twelve numbers are the same widths
pub unpacked_same : (f g : ℕ → ℕ) → ((i : ℕ) → i < 12 → f i ≡ g i) → unpacked f ≡ unpacked g
unpacked_same f g at =
    let width : (ℕ → ℕ) → ℕ → ℕ = λ h k. get_or (bytes_of (h (k / 8))) (k % 8) 0 in
    fill_by_all (width g) (unpacked f) 95 0 (length-map-range_with_len (width f) 0 95)
    (λ k l. get_or-map-range_with_len (width f) 0 95 k k 0 l (omega arith) ∙ ap (λ v. get_or (bytes_of v) (k % 8) 0) (at (k / 8) (omega arith)))

-- two rows of numbers with the same header
module _ (xs rs : List ℕ) (at : (i : ℕ) → i < 64 → get_or xs i 0 ≡ get_or rs i 0) where
  pub limits_same : limits_at xs ≡ limits_at rs
  limits_same = rw (at 0 (lit< tt), at 1 (lit< tt), at 2 (lit< tt), at 3 (lit< tt)) refl

  pub limits_kept_same : limits_kept xs ≡ limits_kept rs
  limits_kept_same = rw (at 0 (lit< tt), at 1 (lit< tt), at 2 (lit< tt), at 3 (lit< tt)) refl

  pub looks_kept_same : looks_kept xs ≡ looks_kept rs
  looks_kept_same = rw (at 10 (lit< tt), at 11 (lit< tt)) refl

  pub counts_kept_same : counts_kept xs ≡ counts_kept rs
  counts_kept_same =
      rw (at 0 (lit< tt), at 1 (lit< tt), at 2 (lit< tt), at 4 (lit< tt), at 5 (lit< tt), at 6 (lit< tt), at 7 (lit< tt), at 8 (lit< tt), at 9 (lit< tt)) refl

  pub widths_same : widths_at xs ≡ widths_at rs
  widths_same = unpacked_same (λ i. get_or xs (12 + i) 0) (λ i. get_or rs (12 + i) 0) (λ i h. at (12 + i) (omega arith))

  pub kept_same : kept_at xs ≡ kept_at rs
  kept_same =
      let at_4 = at 4 (lit< tt) in
      let at_5 = at 5 (lit< tt) in
      let at_6 = at 6 (lit< tt) in
      let at_7 = at 7 (lit< tt) in
      let at_8 = at 8 (lit< tt) in
      let at_9 = at 9 (lit< tt) in
      let at_10 = at 10 (lit< tt) in
      let at_11 = at 11 (lit< tt) in
      λ i. record {
        limits = limits_same i;
        looks = record { widths = widths_same i; width = at_10 i; rows = at_11 i };
        paragraphs = record { entries = at_4 i; size = at_5 i; bytes = at_6 i };
        definitions = record { entries = at_7 i; size = at_8 i; bytes = at_9 i };
      }

  pub table_kept_same :
      ((first n : ℕ) → first + 4 * n ≤ first_definition rs + 4 * get_or rs 7 0 + 1 → table_sum first n xs ≡ table_sum first n rs) → get_or rs 4 0 ≤ get_or rs 0 0 → table_kept xs ≡ table_kept rs
  table_kept_same sums few =
      rw (at 0 (lit< tt), at 4 (lit< tt), at 5 (lit< tt), at 6 (lit< tt), at 7 (lit< tt), at 8 (lit< tt), at 9 (lit< tt))
      (rw (sums 64 (get_or rs 4 0) (omega arith), sums 65 (get_or rs 4 0) (omega arith), sums (first_definition rs) (get_or rs 7 0) (omega arith), sums (first_definition rs + 1) (get_or rs 7 0) (omega arith)) refl)

-- a book is open in just what its limits ask for
pub open_take :
    (bytes : ℕ) (rs : List ℕ) (b k : ℕ) → is_open bytes rs ≡ true → tokens_asked (limits_of (limits_at rs)) ≤ b → k ≡ rest_asked (limits_of (limits_at rs)) → is_open b (take k rs) ≡ true
open_take bytes rs b k e h f = open_from_parts b (take k rs) parts
  where
    p : OpenParts bytes rs
    p = open_parts bytes rs e

    at : (i : ℕ) → i < 64 → get_or (take k rs) i 0 ≡ get_or rs i 0
    at i l = get_or-take k rs i 0 (omega arith)

    few : Within (counts_at rs) (definitions_at rs) (limits_at rs)
    few = within_parts (counts_at rs) (definitions_at rs) (limits_at rs) p.counts

    sums : (first n : ℕ) → first + 4 * n ≤ first_definition rs + 4 * get_or rs 7 0 + 1 → table_sum first n (take k rs) ≡ table_sum first n rs
    sums first n l = table_sum_take first n k rs (omega (arith, few.definitions))

    long : rest_asked (limits_of (limits_at rs)) ≤ length (take k rs)
    long = omega (arith, length-take-le k rs (omega (arith, p.numbers_enough)))

    parts : OpenParts b (take k rs)
    parts =
        record {
          limits = limits_kept_same (take k rs) rs at ∙ p.limits;
          bytes_enough = subst (λ l. tokens_asked (limits_of l) ≤ b) (sym (limits_same (take k rs) rs at)) h;
          numbers_enough = subst (λ l. rest_asked (limits_of l) ≤ length (take k rs)) (sym (limits_same (take k rs) rs at)) long;
          looks = looks_kept_same (take k rs) rs at ∙ p.looks;
          counts = counts_kept_same (take k rs) rs at ∙ p.counts;
          table = table_kept_same (take k rs) rs at sums few.paragraphs ∙ p.table;
        }

-- a sum that is too large to tell is no count
min_eqb : (x s : ℕ) → s < largest → eqb (min x largest) s ≡ eqb x s
min_eqb x s h =
    elim (cases_lt x largest) [
      | inl l ↦ ap (λ m. eqb m s) (omega arith)
      | inr g ↦ ne_eqb (min x largest) s (λ e. omega arith) ∙ sym (ne_eqb x s (λ e. omega arith))
    ]

-- as a derived `==` compares them
abbrev pub equal_counts : Counts → Counts → Bool
equal_counts a b = eqb a.entries b.entries && (eqb a.size b.size && eqb a.bytes b.bytes)

and_turned : (a b : Bool) → (a && b) ≡ (b && a)
and_turned true true = refl
and_turned true false = refl
and_turned false true = refl
and_turned false false = refl

-- a header that was read
pub record HeaderRead (rs : List ℕ) (k : Kept) : Type 0 where
  pub limits : limits_kept rs ≡ true
  pub looks : looks_kept rs ≡ true
  pub same : k ≡ kept_at rs

module _ (rs hs : List ℕ) (head : hs ≡ take 64 rs) where
  header_at : (i : ℕ) → i < 64 → get_or hs i 0 ≡ get_or rs i 0
  header_at i h = ap (λ xs. get_or xs i 0) head ∙ get_or-take 64 rs i 0 h

  pub header_fails : (bytes : ℕ) → (limits_kept hs && looks_kept hs) ≡ false → is_open bytes rs ≡ false
  header_fails bytes e = head_fails bytes rs (sym (ap₂ ◌&&◌ (limits_kept_same hs rs header_at) (looks_kept_same hs rs header_at)) ∙ e)

  pub header_read : {k : Kept} → Some k ≡ pick (limits_kept hs && looks_kept hs) (Some (kept_at hs)) None → HeaderRead rs k
  header_read {k} told =
      let read = some_picked (limits_kept hs && looks_kept hs) k (kept_at hs) told in
      let good = and_parts (limits_kept hs) (looks_kept hs) read.0 in
      record {
        limits = sym (limits_kept_same hs rs header_at) ∙ good.0;
        looks = sym (looks_kept_same hs rs header_at) ∙ good.1;
        same = read.1 ∙ kept_same hs rs header_at;
      }

-- a book judged by its header
module _ (ts : List ℕ) {rs : List ℕ} {k : Kept} (header : HeaderRead rs k) where
  pub too_short : (length ts < tokens_asked (limits_of k.limits)) ⊎ (length rs < rest_asked (limits_of k.limits)) → is_open (length ts) rs ≡ false
  too_short (inl h) = tokens_short (length ts) rs (subst (λ j. length ts < tokens_asked (limits_of j.limits)) header.same h)
  too_short (inr h) = rest_short (length ts) rs (subst (λ j. length rs < rest_asked (limits_of j.limits)) header.same h)

  pub too_many : false ≡ counts_within k.paragraphs k.definitions k.limits → is_open (length ts) rs ≡ false
  too_many e = counts_fail (length ts) rs (ap (λ j. counts_within j.paragraphs j.definitions j.limits) (sym header.same) ∙ sym e)

  module _ (within : true ≡ counts_within k.paragraphs k.definitions k.limits) where
    counts : counts_kept rs ≡ true
    counts = ap (λ j. counts_within j.paragraphs j.definitions j.limits) (sym header.same) ∙ sym within

    few_tokens : get_or rs 1 0 ≤ 65536
    few_tokens =
        let limits = and_parts (leb (get_or rs 0 0) 4096) _ header.limits in
        leb-true (get_or rs 1 0) 65536 (and_parts (leb (get_or rs 1 0) 65536) _ limits.1).0

    entries_told : {es : List (List ℕ)} → es ≡ first_chunks 4 k.paragraphs.entries (drop 64 rs) → es ≡ entries_at rs
    unfolding entries_at
    entries_told behind = behind ∙ ap (λ j. first_chunks 4 j.paragraphs.entries (drop 64 rs)) header.same

    -- entries whose counts could be told
    table_told :
        (first : ℕ) (n : Counts) {es : List (List ℕ)} {m : Counts} → n.size < largest → n.bytes < largest → es ≡ first_chunks 4 n.entries (drop first rs) → m ≡ counts_in es →
        equal_counts m n ≡ adds_up first n rs
    table_told first n {es} few few_bytes cut counted =
        let all : eqb (length es) n.entries ≡ true = eq-eqb _ _ (ap length cut ∙ length_table first n.entries rs) in
        let sizes : eqb (counts_in es).size n.size ≡ eqb (table_sum (first + 1) n.entries rs) n.size =
        min_eqb _ _ few ∙ ap (λ m. eqb m n.size) (ap (sum_by (λ e. get_or e 1 0)) cut ∙ sum_of_entries first 1 n.entries rs (lit< tt)) in
        let lengths : eqb (counts_in es).bytes n.bytes ≡ eqb (table_sum first n.entries rs) n.bytes =
        min_eqb _ _ few_bytes ∙ ap (λ m. eqb m n.bytes) (ap (sum_by (λ e. get_or e 0 0)) cut ∙ (sum_of_entries first 0 n.entries rs (lit< tt) ∙ ap (λ j. table_sum j n.entries rs) (omega arith))) in
        ap (λ m. equal_counts m n) counted
        ∙ (ap₂ ◌&&◌ all (ap₂ ◌&&◌ sizes lengths) ∙ and_turned (eqb (table_sum (first + 1) n.entries rs) n.size) (eqb (table_sum first n.entries rs) n.bytes))

    module _ {es : List (List ℕ)} {n : Counts} (behind : es ≡ first_chunks 4 k.paragraphs.entries (drop 64 rs)) (counted : n ≡ counts_in es) where
      paragraphs_told : equal_counts n k.paragraphs ≡ adds_up 64 (counts_at rs) rs
      paragraphs_told =
          let w = within_parts (counts_at rs) (definitions_at rs) (limits_at rs) counts in
          ap (λ j. equal_counts n j.paragraphs) header.same
          ∙ table_told 64 (counts_at rs) (omega (arith, few_tokens, w.sizes)) (omega (arith, few_tokens, w.bytes)) (behind ∙ ap (λ j. first_chunks 4 j.paragraphs.entries (drop 64 rs)) header.same) counted

      pub table_off : true ≡ not (equal_counts n k.paragraphs) → is_open (length ts) rs ≡ false
      table_off e = table_fails (length ts) rs (and_left _ _ (sym paragraphs_told ∙ not-true (equal_counts n k.paragraphs) (sym e)))

      module _ {ds : List (List ℕ)} {m : Counts} (defined : ds ≡ first_chunks 4 k.definitions.entries (drop (64 + 4 * k.limits.paragraphs) rs)) (defined_counted : m ≡ counts_in ds) where
        definitions_told : equal_counts m k.definitions ≡ adds_up (first_definition rs) (definitions_at rs) rs
        definitions_told =
            let w = within_parts (counts_at rs) (definitions_at rs) (limits_at rs) counts in
            ap (λ j. equal_counts m j.definitions) header.same
            ∙ table_told (first_definition rs) (definitions_at rs) (omega (arith, few_tokens, w.sizes)) (omega (arith, few_tokens, w.defined_bytes))
            (defined ∙ ap (λ j. first_chunks 4 j.definitions.entries (drop (64 + 4 * j.limits.paragraphs) rs)) header.same) defined_counted

        pub definitions_off : true ≡ not (equal_counts m k.definitions) → is_open (length ts) rs ≡ false
        definitions_off e = table_fails (length ts) rs (and_right _ _ (sym definitions_told ∙ not-true (equal_counts m k.definitions) (sym e)))

        pub judged :
            tokens_asked (limits_of k.limits) ≤ length ts → rest_asked (limits_of k.limits) ≤ length rs → false ≡ not (equal_counts n k.paragraphs) → false ≡ not (equal_counts m k.definitions) → OpenBook ts rs k es
        judged a b e f =
            let entries : es ≡ entries_at rs = entries_told behind in
            record {
              opened =
                  open_from_parts (length ts) rs (record {
                    limits = header.limits;
                    bytes_enough = subst (λ j. tokens_asked (limits_of j.limits) ≤ length ts) header.same a;
                    numbers_enough = subst (λ j. rest_asked (limits_of j.limits) ≤ length rs) header.same b;
                    looks = header.looks;
                    counts = counts;
                    table =
                        and_from _ _ (sym paragraphs_told ∙ not-false (equal_counts n k.paragraphs) (sym e))
                        (sym definitions_told ∙ not-false (equal_counts m k.definitions) (sym f));
                  });
              same = header.same;
              entries = entries;
              long = ap length entries ∙ (length_entries rs ∙ sym (ap (λ j. j.paragraphs.entries) header.same));
            }
