-- The plain facts from which a definition is put.
use Rattle.std.proofs.Common.{◌≡◌, ℕ, ◌+◌, ◌-◌, ◌*◌, ◌<◌, ◌≤◌, min, Bool, true, false, not, ◌&&◌, ltb, leb, List, length, take, drop, get_or, set, Ok, Err, cond, sum_by, Some, None, Option, sym, refl, ap, ap₂, ◌∙◌, inl, inr, arith, lit<}
use mir.Val.{bool_byte}
use Rattle.std.specs.List.{position_or_len}
use Rattle.std.specs.Option.{unwrap_or}
use Rattle.std.specs.Simd.{first_chunks}
use Rattle.std.proofs.lemmas.Bool.{cases_lt, lt-ltb, le-ltb, lt-leb, le-leb}
use Rattle.std.proofs.lemmas.List.{length-take-le, length-drop}
use Rattle.std.proofs.lemmas.List.Sums.{prefix_len-le-length}
use Rattle.meaning.specs.Text.{pick}
use Rattle.meaning.proofs.Picks.{pick_true, pick_false}
use Rattle.store.specs.Kept.{kept_at, limits_at, counts_at, counts_within, first_definition, table_sum, defined_at, is_open}
use Rattle.store.specs.Counted.{largest, counts_in}
use Rattle.store.specs.Defines.{has_number, place_of, old_ones, sum_before, sum_with, counts_defined, may_define, entry_defined, defined_tokens, defined_rest, Defining, Defines}
use Rattle.store.specs.Splices.{replaced_last}
use Rattle.wire.specs.declared.refusal.Refusal.TheVariants.{BadOpening, TooMuch}
use Rattle.store.specs.Definitions.{defining_by, Redefines}
use Rattle.store.specs.declared.defining.Definition.{Definition}
use Rattle.store.specs.declared.kept.Counts.{Counts}
use Rattle.store.specs.declared.kept.Kept.{Kept}
use Rattle.store.specs.declared.opening.Limits.{Limits}
use Rattle.store.proofs.Makes.{NumbersOf, numbers_at, Within, within_all}
use Rattle.store.proofs.Tables.{length_table, sum_front, sum_part}

-- the first place that passes, or behind the last
pub position_or_all :
    {X : Type 0} (test : X → Bool) (xs : List X) {o : Option ℕ} → o ≡ cond (ltb (position_or_len test xs) (length xs)) (Some (position_or_len test xs)) None → unwrap_or o (length xs) ≡ position_or_len test xs
position_or_all test xs {o} found =
    let few : position_or_len test xs ≤ length xs = prefix_len-le-length _ xs in
    ap (λ p. unwrap_or p (length xs)) found
    ∙ elim (cases_lt (position_or_len test xs) (length xs)) [
      | inl l ↦ ap (λ b. unwrap_or (cond b (Some (position_or_len test xs)) None) (length xs)) (lt-ltb _ _ l)
      | inr g ↦ ap (λ b. unwrap_or (cond b (Some (position_or_len test xs)) None) (length xs)) (le-ltb _ _ g) ∙ omega arith
    ]

-- a size that is too large to tell is too much in any case
pub within_saturated :
    (p : Counts) (e s b : ℕ) (l : Limits) → l.tokens < largest →
    counts_within p (record { entries = e; size = min s largest; bytes = b }) l ≡ counts_within p (record { entries = e; size = s; bytes = b }) l
within_saturated p e s b l few =
    ap (λ t. (leb p.entries l.paragraphs && leb e l.definitions) && (t && (leb p.bytes (2 * l.tokens) && leb b (2 * l.tokens))))
    (elim (cases_lt s largest) [
      | inl small ↦ ap (λ m. leb (p.size + m) l.tokens) (omega arith)
      | inr large ↦ lt-leb (p.size + min s largest) l.tokens (omega arith) ∙ sym (lt-leb (p.size + s) l.tokens (omega arith))
    ])

module _ (ts rs : List ℕ) (k : Kept) (d : Definition) (opened : is_open (length ts) rs ≡ true) (same : k ≡ kept_at rs) where
  numbers : NumbersOf ts rs k
  numbers = rw same (numbers_at ts rs opened)

  pub room_for_entries : 64 + 4 * k.limits.paragraphs + 4 * k.definitions.entries ≤ length rs
  room_for_entries = omega (arith, numbers.rest_long, numbers.within.definitions)

  module _ {es : List (List ℕ)} {at gone : ℕ} {before part : Counts}
      (entries : es ≡ first_chunks 4 k.definitions.entries (drop (64 + 4 * k.limits.paragraphs) rs)) (place : at ≡ position_or_len (has_number d.number) es) (flag : gone ≡ bool_byte (ltb at (length es)))
      (front : before ≡ counts_in (take at es)) (goes : part ≡ counts_in (take (at + gone - at) (drop at es)))
    where
      one : gone ≡ pick (ltb at (length es)) 1 0
      one = flag ∙ by (ltb at (length es))
        where
          by : (b : Bool) → bool_byte b ≡ pick b 1 0
          by true = refl
          by false = refl

      table : es ≡ defined_at rs
      unfolding defined_at
      table = entries ∙ ap (λ j. first_chunks 4 j.definitions.entries (drop (64 + 4 * j.limits.paragraphs) rs)) same

      many : length es ≡ k.definitions.entries
      many = ap length entries ∙ length_table (64 + 4 * k.limits.paragraphs) k.definitions.entries rs

      at_place : at ≡ place_of d.number rs
      at_place = place ∙ ap (position_or_len (has_number d.number)) table

      goes_there : gone ≡ old_ones d.number rs
      goes_there = one ∙ ap₂ (λ a b. pick (ltb a b) 1 0) at_place (ap length table ∙ length_defined)
        where
          length_defined : length (defined_at rs) ≡ get_or rs 7 0
          length_defined = sym (ap length table) ∙ (many ∙ ap (λ j. j.definitions.entries) same)

      there : at + gone ≤ k.definitions.entries
      there =
          let few : at ≤ length es = omega (arith, place, prefix_len-le-length (λ e. not (has_number d.number e)) es) in
          elim (cases_lt at (length es)) [
            | inl l ↦ omega (arith, many, one ∙ pick_true _ 1 0 (lt-ltb at (length es) l))
            | inr g ↦ omega (arith, many, one ∙ pick_false _ 1 0 (le-ltb at (length es) g))
          ]

      -- what stands in a field of the entries before the place, and of the one that goes
      fields :
          (j : ℕ) → j < 4 →
          (sum_by (λ e. get_or e j 0) (take at es) ≡ table_sum (64 + 4 * k.limits.paragraphs + j) at rs)
          × (sum_by (λ e. get_or e j 0) (take (at + gone - at) (drop at es)) ≡ table_sum (64 + 4 * k.limits.paragraphs + j) (at + gone) rs - table_sum (64 + 4 * k.limits.paragraphs + j) at rs)
      fields j h =
          let first : ℕ = 64 + 4 * k.limits.paragraphs in
          let left : at + gone - at ≡ gone = omega arith in (
            ap (λ xs. sum_by (λ e. get_or e j 0) (take at xs)) entries ∙ sum_front first k.definitions.entries rs j at h (omega (arith, there)),
            ap₂ (λ m xs. sum_by (λ e. get_or e j 0) (take m (drop at xs))) left entries ∙ sum_part first k.definitions.entries rs j at gone h there,
          )

      first_is : 64 + 4 * k.limits.paragraphs ≡ first_definition rs
      first_is = ap (λ j. 64 + 4 * j.limits.paragraphs) same

      -- a sum in the table is that of the specification
      before_is : (j : ℕ) → table_sum (64 + 4 * k.limits.paragraphs + j) at rs ≡ sum_before j d.number rs
      before_is j = ap₂ (λ f a. table_sum (f + j) a rs) first_is at_place

      with_is : (j : ℕ) → table_sum (64 + 4 * k.limits.paragraphs + j) (at + gone) rs ≡ sum_with j d.number rs
      with_is j = ap₂ (λ f a. table_sum (f + j) a rs) first_is (ap₂ ◌+◌ at_place goes_there)

      pub redefines : Redefines ts rs k before part d
      redefines =
          let w = numbers.within in
          let bytes : Within (64 + 4 * k.limits.paragraphs) at gone k.definitions.entries k.definitions.bytes rs = within_all _ at gone _ _ rs numbers.defined_bytes_add_up there in
          let sizes : Within (64 + 4 * k.limits.paragraphs + 1) at gone k.definitions.entries k.definitions.size rs = within_all _ at gone _ _ rs numbers.defined_sizes_add_up there in
          let b = fields 0 (lit< tt) in
          let s = fields 1 (lit< tt) in
          let zero_on : (m : ℕ) → table_sum (64 + 4 * k.limits.paragraphs + 0) m rs ≡ table_sum (64 + 4 * k.limits.paragraphs) m rs = λ m. ap (λ f. table_sum f m rs) (omega arith) in
          let left : at + gone - at ≡ gone = omega arith in
          let before_bytes : before.bytes ≡ table_sum (64 + 4 * k.limits.paragraphs + 0) at rs = ap (λ x. x.bytes) front ∙ omega (arith, b.0, zero_on at, bytes.from_to, bytes.to_end, w.defined_bytes, numbers.tokens_few) in
          let gone_bytes : part.bytes ≡ table_sum (64 + 4 * k.limits.paragraphs + 0) (at + gone) rs - table_sum (64 + 4 * k.limits.paragraphs + 0) at rs =
          ap (λ x. x.bytes) goes ∙ omega (arith, b.1, zero_on at, zero_on (at + gone), bytes.from_to, bytes.to_end, w.defined_bytes, numbers.tokens_few) in
          let gone_size : part.size ≡ table_sum (64 + 4 * k.limits.paragraphs + 1) (at + gone) rs - table_sum (64 + 4 * k.limits.paragraphs + 1) at rs =
          ap (λ x. x.size) goes ∙ omega (arith, s.1, sizes.from_to, sizes.to_end, w.sizes, numbers.tokens_few) in
          let before_many : before.entries ≡ at = ap (λ x. x.entries) front ∙ length-take-le at es (omega (arith, many, there)) in
          let gone_many : part.entries ≡ gone = ap (λ x. x.entries) goes ∙ length-take-le (at + gone - at) (drop at es) (omega (arith, many, there, length-drop at es)) ∙ left in
          record {
            opened = opened;
            same = same;
            entries_before = before_many ∙ at_place;
            entries_gone = gone_many ∙ goes_there;
            there = omega (arith, before_many, gone_many, there);
            bytes_before = before_bytes ∙ before_is 0;
            bytes_with = omega (arith, before_bytes, gone_bytes, zero_on at, zero_on (at + gone), bytes.from_to) ∙ with_is 0;
            size_with = omega (arith, gone_size, sizes.from_to, before_is 1, with_is 1);
            bytes_within = omega (arith, before_bytes, gone_bytes, zero_on at, zero_on (at + gone), bytes.from_to, bytes.to_end);
            size_within = omega (arith, gone_size, sizes.from_to, sizes.to_end);
            size_few = omega (arith, w.sizes);
            bytes_few = w.defined_bytes;
            tokens_few = numbers.tokens_few;
            paragraphs_few = numbers.paragraphs_few;
            definitions_few = numbers.definitions_few;
            definitions_within = w.definitions;
            tokens_long = numbers.bytes_long;
            rest_long = numbers.rest_long;
          }

-- a definition that was put
module _ (ts rs ts' rs' : List ℕ) (d : Defining) (open_book : is_open (length ts) rs ≡ true) where
  pub put_so : may_define d rs ≡ true → ts' ≡ defined_tokens d ts rs → rs' ≡ defined_rest d rs → Defines d ts rs ts' rs' (Ok tt)
  put_so room t r =
      record {
        value = sym (pick_true (is_open (length ts) rs) _ (Err BadOpening) open_book ∙ pick_true (may_define d rs) (Ok tt) (Err TooMuch) room);
        tokens = t;
        rest = r;
      }

pub tokens_put :
    (d : Defining) (ts rs : List ℕ) {start stop end : ℕ} → start ≡ 2 * get_or rs 1 0 + sum_before 0 d.number rs → stop ≡ 2 * get_or rs 1 0 + sum_with 0 d.number rs → end ≡ 2 * get_or rs 1 0 + get_or rs 9 0 →
    replaced_last 0 ts start (stop - start) (end - stop) d.bytes ≡ defined_tokens d ts rs
unfolding defined_tokens
tokens_put d ts rs {start} {stop} {end} f g h =
    let gone : stop - start ≡ sum_with 0 d.number rs - sum_before 0 d.number rs = omega arith in
    let behind : end - stop ≡ get_or rs 9 0 - sum_with 0 d.number rs = omega arith in
    rw (gone, behind, f) refl

pub rest_put :
    (d : Defining) (rs xs : List ℕ) {entry : List ℕ} {start stop end n s b : ℕ} → xs ≡ replaced_last 0 rs start (stop - start) (end - stop) entry → start ≡ first_definition rs + 4 * place_of d.number rs →
    stop ≡ first_definition rs + 4 * (place_of d.number rs + old_ones d.number rs) → end ≡ first_definition rs + 4 * get_or rs 7 0 → entry ≡ entry_defined d →
    n ≡ (counts_defined d rs).entries → s ≡ (counts_defined d rs).size → b ≡ (counts_defined d rs).bytes → set (set (set xs 7 n) 8 s) 9 b ≡ defined_rest d rs
unfolding defined_rest
rest_put d rs xs {entry} {start} {stop} {end} e f g h i j k l =
    let gone : stop - start ≡ 4 * old_ones d.number rs = omega arith in
    let behind : end - stop ≡ 4 * (get_or rs 7 0 - (place_of d.number rs + old_ones d.number rs)) = omega arith in
    rw (e, gone, behind, f, i, j, k, l) refl
