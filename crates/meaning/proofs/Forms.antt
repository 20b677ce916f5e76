-- Tokens as rows of numbers: read in one way only, how long, and of which numbers.
use Rattle.std.proofs.Common.{◌≡◌, ℕ, zero, suc, ◌+◌, ◌*◌, ◌<◌, ◌≤◌, Bool, true, false, ◌&&◌, eqb, ltb, leb, List, [], ◌∷◌, ◌++◌, length, get_or, drop, sym, refl, ap, ◌∙◌, append_assoc, append-nil, zero-add, arith, length-append}
use mathlib.Core.Bool.{and_assoc}
use Rattle.std.proofs.lemmas.Bool.{and_parts, and_from, both_ways, lt-ltb, leb-true}
use Rattle.meaning.specs.Text.{pick, Token, letter, space, mark, page_of, note, command, given, Tokens, none, more, written, all_written}
use Rattle.meaning.specs.Calls.{size, size_of, good, good_one}
use Rattle.meaning.proofs.Below.{all_below_append}
use Rattle.meaning.specs.Promise.{in_bytes, in_byte, all_below, OneReading}
use Rattle.meaning.proofs.Picks.{pick_true, pick_false}

-- A reader: the first token of a row and what is left, and tokens up to a 7 or the end and what is left behind it. The first number says how deep to read.
abbrev mutual
  one_read : ℕ → List ℕ → Token × List ℕ
  one_read zero xs = (space, [])
  one_read (suc n) xs =
      let k : ℕ = get_or xs 0 0 in
      let c : ℕ = get_or xs 1 0 in
      let noted : Tokens × List ℕ = all_read n (drop 1 xs) in
      let handed : Tokens × List ℕ = all_read n (drop 2 xs) in
      pick (eqb k 0) (letter c, drop 2 xs) (pick (eqb k 1) (space, drop 1 xs) (pick (eqb k 2) (mark c, drop 2 xs) (pick (eqb k 3) (page_of c, drop 2 xs)
      (pick (eqb k 4) (note noted.0, noted.1) (pick (eqb k 5) (command c handed.0, handed.1) (given, drop 1 xs))))))

  all_read : ℕ → List ℕ → Tokens × List ℕ
  all_read zero xs = (none, [])
  all_read (suc n) xs =
      let first : Token × List ℕ = one_read n xs in
      let others : Tokens × List ℕ = all_read n first.1 in
      pick (eqb (get_or xs 0 7) 7) (none, drop 1 xs) (more first.0 others.0, others.1)

not_at_end : (t : Token) (xs : List ℕ) → eqb (get_or (written t ++ xs) 0 7) 7 ≡ false
not_at_end (letter c) xs = refl
not_at_end space xs = refl
not_at_end (mark l) xs = refl
not_at_end (page_of l) xs = refl
not_at_end (note ts) xs = refl
not_at_end (command k ts) xs = refl
not_at_end given xs = refl

pub written_some : (t : Token) → 0 < length (written t)
written_some (letter c) = omega arith
written_some space = omega arith
written_some (mark l) = omega arith
written_some (page_of l) = omega arith
written_some (note ts) = omega arith
written_some (command k ts) = omega arith
written_some given = omega arith

-- the reader gives back what was written
mutual
  one_back : (t : Token) (n : ℕ) (xs : List ℕ) → length (written t) ≤ n → one_read n (written t ++ xs) ≡ (t, xs)
  one_back (letter c) zero xs h = absurd (omega arith)
  one_back (letter c) (suc n) xs h = refl
  one_back space zero xs h = absurd (omega arith)
  one_back space (suc n) xs h = refl
  one_back (mark l) zero xs h = absurd (omega arith)
  one_back (mark l) (suc n) xs h = refl
  one_back (page_of l) zero xs h = absurd (omega arith)
  one_back (page_of l) (suc n) xs h = refl
  one_back (note ts) zero xs h = absurd (omega arith)
  one_back (note ts) (suc n) xs h =
      rw append_assoc (ap (λ (r : Tokens × List ℕ). (note r.0, r.1)) (all_back ts n (7 ∷ xs) (omega (arith, length-append (all_written ts) (7 ∷ []))) refl))
  one_back (command k ts) zero xs h = absurd (omega arith)
  one_back (command k ts) (suc n) xs h =
      rw append_assoc (ap (λ (r : Tokens × List ℕ). (command k r.0, r.1)) (all_back ts n (7 ∷ xs) (omega (arith, length-append (all_written ts) (7 ∷ []))) refl))
  one_back given zero xs h = absurd (omega arith)
  one_back given (suc n) xs h = refl

  all_back :
      (ts : Tokens) (n : ℕ) (xs : List ℕ) → length (all_written ts) < n → eqb (get_or xs 0 7) 7 ≡ true → all_read n (all_written ts ++ xs) ≡ (ts, drop 1 xs)
  all_back none zero xs h e = absurd (omega arith)
  all_back none (suc n) xs h e = pick_true (eqb (get_or xs 0 7) 7) _ _ e
  all_back (more t ts) zero xs h e = absurd (omega arith)
  all_back (more t ts) (suc n) xs h e =
      let one : one_read n (written t ++ (all_written ts ++ xs)) ≡ (t, all_written ts ++ xs) =
      one_back t n (all_written ts ++ xs) (omega (arith, length-append (written t) (all_written ts))) in
      let all : all_read n (all_written ts ++ xs) ≡ (ts, drop 1 xs) =
      all_back ts n xs (omega (arith, length-append (written t) (all_written ts), written_some t)) e in
      rw append_assoc (pick_false _ _ _ (not_at_end t (all_written ts ++ xs)) ∙ rw (one, all) refl)

-- one token and then anything, or tokens up to a 7 and then anything, can be told apart
pub token_and_rest : (t u : Token) (xs ys : List ℕ) → written t ++ xs ≡ written u ++ ys → (t ≡ u) × (xs ≡ ys)
token_and_rest t u xs ys e =
    let same : ◌≡◌ {A = Token × List ℕ} (t, xs) (u, ys) =
    sym (one_back t (length (written t ++ xs)) xs (omega (arith, length-append (written t) xs))) ∙ ap (one_read (length (written t ++ xs))) e
    ∙ one_back u (length (written t ++ xs)) ys (omega (arith, ap length e, length-append (written u) ys)) in
    (ap (λ (r : Token × List ℕ). r.0) same, ap (λ (r : Token × List ℕ). r.1) same)

tokens_and_ends :
    (ts us : Tokens) (xs ys : List ℕ) → eqb (get_or xs 0 7) 7 ≡ true → eqb (get_or ys 0 7) 7 ≡ true → all_written ts ++ xs ≡ all_written us ++ ys →
    (ts ≡ us) × (drop 1 xs ≡ drop 1 ys)
tokens_and_ends ts us xs ys p q e =
    let n : ℕ = suc (length (all_written ts ++ xs)) in
    let same : ◌≡◌ {A = Tokens × List ℕ} (ts, drop 1 xs) (us, drop 1 ys) =
    sym (all_back ts n xs (omega (arith, length-append (all_written ts) xs)) p) ∙ ap (all_read n) e
    ∙ all_back us n ys (omega (arith, ap length e, length-append (all_written us) ys)) q in
    (ap (λ (r : Tokens × List ℕ). r.0) same, ap (λ (r : Tokens × List ℕ). r.1) same)

pub tokens_and_rest : (ts us : Tokens) (xs ys : List ℕ) → all_written ts ++ (7 ∷ xs) ≡ all_written us ++ (7 ∷ ys) → (ts ≡ us) × (xs ≡ ys)
tokens_and_rest ts us xs ys e = tokens_and_ends ts us (7 ∷ xs) (7 ∷ ys) refl refl e

pub one_reading : OneReading
unfolding OneReading
one_reading a b e = (tokens_and_ends a b [] [] refl refl (rw (append-nil (all_written a), append-nil (all_written b)) e)).0

-- tokens after tokens
infixr 65 ◌then◌
abbrev pub ◌then◌ : Tokens → Tokens → Tokens
none then us = us
more t ts then us = more t (ts then us)

pub then_none : (ts : Tokens) → ts then none ≡ ts
then_none none = refl
then_none (more t ts) = ap (more t) (then_none ts)

pub then_assoc : (ts us vs : Tokens) → (ts then us) then vs ≡ ts then (us then vs)
then_assoc none us vs = refl
then_assoc (more t ts) us vs = ap (more t) (then_assoc ts us vs)

pub all_written_then : (ts us : Tokens) → all_written (ts then us) ≡ all_written ts ++ all_written us
all_written_then none us = refl
all_written_then (more t ts) us = ap (λ (xs : List ℕ). written t ++ xs) (all_written_then ts us) ∙ sym (append_assoc (written t) (all_written ts) (all_written us))

pub size_then : (ts us : Tokens) → size (ts then us) ≡ size ts + size us
size_then none us = sym (zero-add (size us))
size_then (more t ts) us = omega (arith, size_then ts us)

pub good_then : (can : ℕ → Bool) (ts us : Tokens) (d : ℕ) → good can (ts then us) d ≡ (good can ts d && good can us d)
good_then can none us d = refl
good_then can (more t ts) us d = ap (λ (b : Bool). good_one can t d && b) (good_then can ts us d) ∙ sym (and_assoc (good_one can t d) (good can ts d) (good can us d))

pub in_bytes_then : (ts us : Tokens) → in_bytes (ts then us) ≡ (in_bytes ts && in_bytes us)
in_bytes_then none us = refl
in_bytes_then (more t ts) us = ap (λ (b : Bool). in_byte t && b) (in_bytes_then ts us) ∙ sym (and_assoc (in_byte t) (in_bytes ts) (in_bytes us))

-- how long: a letter, a mark and a page number are of size 1 and take two numbers
mutual
  pub length_written : (t : Token) → length (written t) ≤ 2 * size_of t
  length_written (letter c) = omega arith
  length_written space = omega arith
  length_written (mark l) = omega arith
  length_written (page_of l) = omega arith
  length_written (note ts) = omega (arith, length-append (all_written ts) (7 ∷ []), length_all_written ts)
  length_written (command k ts) = omega (arith, length-append (all_written ts) (7 ∷ []), length_all_written ts)
  length_written given = omega arith

  pub length_all_written : (ts : Tokens) → length (all_written ts) ≤ 2 * size ts
  length_all_written none = omega arith
  length_all_written (more t ts) = omega (arith, length-append (written t) (all_written ts), length_written t, length_all_written ts)

-- of which numbers
mutual
  unfolding all_below

  pub written_below : (t : Token) → in_byte t ≡ true → all_below 256 (written t) ≡ true
  written_below (letter c) h = and_from (ltb c 256) true h refl
  written_below space h = refl
  written_below (mark l) h = and_from (ltb l 256) true h refl
  written_below (page_of l) h = and_from (ltb l 256) true h refl
  written_below (note ts) h = all_below_append 256 (all_written ts) (7 ∷ []) ∙ and_from _ true (all_written_below ts h) refl
  written_below (command k ts) h =
      let hs : (ltb k 256 ≡ true) × (in_bytes ts ≡ true) = and_parts (ltb k 256) (in_bytes ts) h in
      and_from (ltb k 256) _ hs.0 (all_below_append 256 (all_written ts) (7 ∷ []) ∙ and_from _ true (all_written_below ts hs.1) refl)
  written_below given h = refl

  pub all_written_below : (ts : Tokens) → in_bytes ts ≡ true → all_below 256 (all_written ts) ≡ true
  all_written_below none h = refl
  all_written_below (more t ts) h =
      let hs : (in_byte t ≡ true) × (in_bytes ts ≡ true) = and_parts (in_byte t) (in_bytes ts) h in
      all_below_append 256 (written t) (all_written ts) ∙ and_from _ _ (written_below t hs.0) (all_written_below ts hs.1)

-- what a stage takes, bytes can carry
pub good_letter : (can : ℕ → Bool) (c d : ℕ) → good_one can (letter c) d ≡ true → (33 ≤ c) × (c ≤ 126)
good_letter can c d h =
    let hs : (leb 33 c ≡ true) × (leb c 126 ≡ true) = and_parts (leb 33 c) (leb c 126) (and_parts (can 0) (leb 33 c && leb c 126) h).1 in
    (leb-true 33 c hs.0, leb-true c 126 hs.1)

mutual
  pub good_in_byte : (can : ℕ → Bool) (t : Token) (d : ℕ) → good_one can t d ≡ true → in_byte t ≡ true
  good_in_byte can (letter c) d h = lt-ltb c 256 (omega (arith, (good_letter can c d h).1))
  good_in_byte can space d h = refl
  good_in_byte can (mark l) d h = (and_parts (can 2) (ltb l 256) h).1
  good_in_byte can (page_of l) d h = (and_parts (can 3) (ltb l 256) h).1
  good_in_byte can (note ts) zero h = absurd (both_ways false refl h)
  good_in_byte can (note ts) (suc d) h = good_in_bytes can ts d (and_parts (can 4) (good can ts d) h).1
  good_in_byte can (command k ts) zero h = absurd (both_ways false refl h)
  good_in_byte can (command k ts) (suc d) h =
      let hs : (ltb k 256 ≡ true) × (good can ts d ≡ true) = and_parts (ltb k 256) (good can ts d) (and_parts (can 5) _ h).1 in
      and_from (ltb k 256) (in_bytes ts) hs.0 (good_in_bytes can ts d hs.1)
  good_in_byte can given d h = refl

  pub good_in_bytes : (can : ℕ → Bool) (ts : Tokens) (d : ℕ) → good can ts d ≡ true → in_bytes ts ≡ true
  good_in_bytes can none d h = refl
  good_in_bytes can (more t ts) d h =
      let hs : (good_one can t d ≡ true) × (good can ts d ≡ true) = and_parts (good_one can t d) (good can ts d) h in
      and_from (in_byte t) (in_bytes ts) (good_in_byte can t d hs.0) (good_in_bytes can ts d hs.1)
