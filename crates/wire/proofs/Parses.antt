-- Bytes as tokens: how they are read from the first byte on, and where they cease to be tokens.
use Rattle.std.proofs.Common.{◌≡◌, ℕ, zero, suc, ◌<◌, ◌≤◌, List, [], ◌∷◌, ◌++◌, length, sym, refl, ap, ◌∙◌, append_assoc, append-nil, arith}
use Rattle.meaning.specs.Text.{Token, letter, space, mark, page_of, note, command, given, Tokens, none, more, written, all_written}
use Rattle.meaning.proofs.Forms.{◌then◌, then_none}
use Rattle.wire.specs.Bytes.{Parsed, whole, broken, before, closed, numbered, commanded, token_first, parsed_in, parsed, parsed_tokens, tokens_of}

-- what is left
abbrev pub parsed_left : Parsed → List ℕ
parsed_left (whole ts bs) = bs
parsed_left (broken ts bs) = bs

pub parsed_left_before : (t : Token) (p : Parsed) → parsed_left (before t p) ≡ parsed_left p
parsed_left_before t (whole ts bs) = refl
parsed_left_before t (broken ts bs) = refl

pub parsed_tokens_before : (t : Token) (p : Parsed) → parsed_tokens (before t p) ≡ more t (parsed_tokens p)
parsed_tokens_before t (whole ts bs) = refl
parsed_tokens_before t (broken ts bs) = refl

-- what is left is never longer than what was read
abbrev Shortens : (List ℕ → Parsed) → Type 0
Shortens go_on = (bs : List ℕ) → length (parsed_left (go_on bs)) ≤ length bs

closed_shortens : (make : Tokens → Token) (go_on : List ℕ → Parsed) (p : Parsed) → Shortens go_on → length (parsed_left (closed make go_on p)) ≤ length (parsed_left p)
closed_shortens make go_on (whole ts []) short = omega arith
closed_shortens make go_on (whole ts (x ∷ bs)) short = rw parsed_left_before (omega (arith, short bs))
closed_shortens make go_on (broken ts bs) short = omega arith

numbered_shortens : (make : ℕ → Token) (go_on : List ℕ → Parsed) (bs : List ℕ) → Shortens go_on → length (parsed_left (numbered make go_on bs)) ≤ length bs
numbered_shortens make go_on [] short = omega arith
numbered_shortens make go_on (x ∷ bs) short = rw parsed_left_before (omega (arith, short bs))

commanded_shortens : (go_on : List ℕ → Parsed) (bs : List ℕ) → Shortens go_on → length (parsed_left (commanded go_on bs)) ≤ length bs
commanded_shortens go_on [] short = omega arith
commanded_shortens go_on (k ∷ bs) short = omega (arith, closed_shortens (command k) go_on (go_on bs) short, short bs)

token_first_shortens : (go_on : List ℕ → Parsed) (x : ℕ) (bs : List ℕ) → Shortens go_on → length (parsed_left (token_first go_on x bs)) ≤ suc (length bs)
unfolding token_first
token_first_shortens go_on zero bs short = omega (arith, numbered_shortens letter go_on bs short)
token_first_shortens go_on (suc zero) bs short = rw parsed_left_before (omega (arith, short bs))
token_first_shortens go_on (suc (suc zero)) bs short = omega (arith, numbered_shortens mark go_on bs short)
token_first_shortens go_on (suc (suc (suc zero))) bs short = omega (arith, numbered_shortens page_of go_on bs short)
token_first_shortens go_on (suc (suc (suc (suc zero)))) bs short = omega (arith, closed_shortens note go_on (go_on bs) short, short bs)
token_first_shortens go_on (suc (suc (suc (suc (suc zero))))) bs short = omega (arith, commanded_shortens go_on bs short)
token_first_shortens go_on (suc (suc (suc (suc (suc (suc zero)))))) bs short = rw parsed_left_before (omega (arith, short bs))
token_first_shortens go_on (suc (suc (suc (suc (suc (suc (suc zero))))))) bs short = omega arith
token_first_shortens go_on (suc (suc (suc (suc (suc (suc (suc (suc k)))))))) bs short = omega arith

parsed_in_shortens : (n : ℕ) → Shortens (parsed_in n)
unfolding parsed_in
parsed_in_shortens n [] = omega arith
parsed_in_shortens zero (x ∷ bs) = omega arith
parsed_in_shortens (suc n) (x ∷ bs) = token_first_shortens (parsed_in n) x bs (parsed_in_shortens n)

-- so the steps allowed don't matter once they are as many as the bytes
abbrev Alike : ℕ → (List ℕ → Parsed) → (List ℕ → Parsed) → Type 0
Alike n go_on go_on' = (bs : List ℕ) → length bs ≤ n → go_on bs ≡ go_on' bs

closed_alike :
    (n : ℕ) (make : Tokens → Token) (go_on go_on' : List ℕ → Parsed) (p : Parsed) → Alike n go_on go_on' → length (parsed_left p) ≤ n → closed make go_on p ≡ closed make go_on' p
closed_alike n make go_on go_on' (whole ts []) same h = refl
closed_alike n make go_on go_on' (whole ts (x ∷ bs)) same h = ap (before (make ts)) (same bs (omega arith))
closed_alike n make go_on go_on' (broken ts bs) same h = refl

numbered_alike :
    (n : ℕ) (make : ℕ → Token) (go_on go_on' : List ℕ → Parsed) (bs : List ℕ) → Alike n go_on go_on' → length bs ≤ n → numbered make go_on bs ≡ numbered make go_on' bs
numbered_alike n make go_on go_on' [] same h = refl
numbered_alike n make go_on go_on' (x ∷ bs) same h = ap (before (make x)) (same bs (omega arith))

taken_in_alike :
    (n : ℕ) (make : Tokens → Token) (go_on go_on' : List ℕ → Parsed) (bs : List ℕ) → Shortens go_on → Alike n go_on go_on' → length bs ≤ n →
    closed make go_on (go_on bs) ≡ closed make go_on' (go_on' bs)
taken_in_alike n make go_on go_on' bs short same h =
    closed_alike n make go_on go_on' (go_on bs) same (omega (arith, short bs)) ∙ ap (closed make go_on') (same bs h)

commanded_alike :
    (n : ℕ) (go_on go_on' : List ℕ → Parsed) (bs : List ℕ) → Shortens go_on → Alike n go_on go_on' → length bs ≤ n → commanded go_on bs ≡ commanded go_on' bs
commanded_alike n go_on go_on' [] short same h = refl
commanded_alike n go_on go_on' (k ∷ bs) short same h = taken_in_alike n (command k) go_on go_on' bs short same (omega arith)

token_first_alike :
    (n : ℕ) (go_on go_on' : List ℕ → Parsed) (x : ℕ) (bs : List ℕ) → Shortens go_on → Alike n go_on go_on' → length bs ≤ n → token_first go_on x bs ≡ token_first go_on' x bs
unfolding token_first
token_first_alike n go_on go_on' zero bs short same h = numbered_alike n letter go_on go_on' bs same h
token_first_alike n go_on go_on' (suc zero) bs short same h = ap (before space) (same bs h)
token_first_alike n go_on go_on' (suc (suc zero)) bs short same h = numbered_alike n mark go_on go_on' bs same h
token_first_alike n go_on go_on' (suc (suc (suc zero))) bs short same h = numbered_alike n page_of go_on go_on' bs same h
token_first_alike n go_on go_on' (suc (suc (suc (suc zero)))) bs short same h = taken_in_alike n note go_on go_on' bs short same h
token_first_alike n go_on go_on' (suc (suc (suc (suc (suc zero))))) bs short same h = commanded_alike n go_on go_on' bs short same h
token_first_alike n go_on go_on' (suc (suc (suc (suc (suc (suc zero)))))) bs short same h = ap (before given) (same bs h)
token_first_alike n go_on go_on' (suc (suc (suc (suc (suc (suc (suc zero))))))) bs short same h = refl
token_first_alike n go_on go_on' (suc (suc (suc (suc (suc (suc (suc (suc k)))))))) bs short same h = refl

parsed_in_alike : (n m : ℕ) (bs : List ℕ) → length bs ≤ n → length bs ≤ m → parsed_in n bs ≡ parsed_in m bs
unfolding parsed_in
parsed_in_alike n m [] h k = refl
parsed_in_alike zero m (x ∷ bs) h k = absurd (omega arith)
parsed_in_alike (suc n) zero (x ∷ bs) h k = absurd (omega arith)
parsed_in_alike (suc n) (suc m) (x ∷ bs) h k =
    token_first_alike (length bs) (parsed_in n) (parsed_in m) x bs (parsed_in_shortens n) (λ cs l. parsed_in_alike n m cs (omega arith) (omega arith)) (omega arith)

pub parsed_in_enough : (n : ℕ) (bs : List ℕ) → length bs ≤ n → parsed_in n bs ≡ parsed bs
parsed_in_enough n bs h = parsed_in_alike n (length bs) bs h (omega arith)

pub parsed_step : (x : ℕ) (bs : List ℕ) → parsed (x ∷ bs) ≡ token_first parsed x bs
unfolding parsed_in
parsed_step x bs = token_first_alike (length bs) (parsed_in (length bs)) parsed x bs (parsed_in_shortens (length bs)) (parsed_in_enough (length bs)) (omega arith)

pub parsed_none : parsed [] ≡ whole none []
unfolding parsed_in
parsed_none = refl

pub parsed_end : (bs : List ℕ) → parsed (7 ∷ bs) ≡ whole none (7 ∷ bs)
unfolding parsed_in token_first
parsed_end bs = refl

pub parsed_unknown : (x : ℕ) (bs : List ℕ) → 7 < x → parsed (x ∷ bs) ≡ broken none (x ∷ bs)
unfolding token_first
parsed_unknown zero bs h = absurd (omega arith)
parsed_unknown (suc zero) bs h = absurd (omega arith)
parsed_unknown (suc (suc zero)) bs h = absurd (omega arith)
parsed_unknown (suc (suc (suc zero))) bs h = absurd (omega arith)
parsed_unknown (suc (suc (suc (suc zero)))) bs h = absurd (omega arith)
parsed_unknown (suc (suc (suc (suc (suc zero))))) bs h = absurd (omega arith)
parsed_unknown (suc (suc (suc (suc (suc (suc zero)))))) bs h = absurd (omega arith)
parsed_unknown (suc (suc (suc (suc (suc (suc (suc zero))))))) bs h = absurd (omega arith)
parsed_unknown (suc (suc (suc (suc (suc (suc (suc (suc k)))))))) bs h = parsed_step _ bs

pub parsed_note : (bs : List ℕ) → parsed (4 ∷ bs) ≡ closed note parsed (parsed bs)
unfolding token_first
parsed_note bs = parsed_step 4 bs

pub parsed_command : (k : ℕ) (bs : List ℕ) → parsed (5 ∷ (k ∷ bs)) ≡ closed (command k) parsed (parsed bs)
unfolding token_first
parsed_command k bs = parsed_step 5 (k ∷ bs)

-- tokens come before what the bytes behind them are read as
abbrev pub before_all : Tokens → Parsed → Parsed
before_all ts (whole us bs) = whole (ts then us) bs
before_all ts (broken us bs) = broken (ts then us) bs

before_all_none : (p : Parsed) → p ≡ before_all none p
before_all_none (whole us bs) = refl
before_all_none (broken us bs) = refl

before_all_more : (t : Token) (ts : Tokens) (p : Parsed) → before t (before_all ts p) ≡ before_all (more t ts) p
before_all_more t ts (whole us bs) = refl
before_all_more t ts (broken us bs) = refl

before_all_end : (ts : Tokens) (bs : List ℕ) → before_all ts (parsed (7 ∷ bs)) ≡ whole ts (7 ∷ bs)
before_all_end ts bs = rw (parsed_end bs, then_none ts) refl

mutual
  unfolding token_first

  pub parsed_written : (t : Token) (bs : List ℕ) → parsed (written t ++ bs) ≡ before t (parsed bs)
  parsed_written (letter c) bs = parsed_step 0 (c ∷ bs)
  parsed_written space bs = parsed_step 1 bs
  parsed_written (mark l) bs = parsed_step 2 (l ∷ bs)
  parsed_written (page_of l) bs = parsed_step 3 (l ∷ bs)
  parsed_written (note ts) bs =
      rw (append_assoc, parsed_note (all_written ts ++ (7 ∷ bs)), parsed_all_written ts (7 ∷ bs), before_all_end ts bs) refl
  parsed_written (command k ts) bs =
      rw (append_assoc, parsed_command k (all_written ts ++ (7 ∷ bs)), parsed_all_written ts (7 ∷ bs), before_all_end ts bs) refl
  parsed_written given bs = parsed_step 6 bs

  pub parsed_all_written : (ts : Tokens) (bs : List ℕ) → parsed (all_written ts ++ bs) ≡ before_all ts (parsed bs)
  parsed_all_written none bs = before_all_none (parsed bs)
  parsed_all_written (more t ts) bs =
      rw (append_assoc, parsed_written t (all_written ts ++ bs), parsed_all_written ts bs) (before_all_more t ts (parsed bs))

-- tokens and then nothing, or an end byte
abbrev pub Ended : List ℕ → Type 0
Ended [] = Unit {0}
Ended (x ∷ bs) = x ≡ 7

pub parsed_ended : (ts : Tokens) (left : List ℕ) → Ended left → parsed (all_written ts ++ left) ≡ whole ts left
parsed_ended ts [] h = rw (parsed_all_written ts [], parsed_none, then_none) refl
parsed_ended ts (x ∷ left) h = rw (parsed_all_written ts (x ∷ left), h) (before_all_end ts left)

pub parsed_all : (ts : Tokens) → parsed (all_written ts) ≡ whole ts []
parsed_all ts = ap parsed (sym (append-nil (all_written ts))) ∙ parsed_ended ts [] tt

pub tokens_of_all_written : (ts : Tokens) → tokens_of (all_written ts) ≡ ts
tokens_of_all_written ts = ap parsed_tokens (parsed_all ts)

pub tokens_of_written : (t : Token) (bs : List ℕ) → tokens_of (written t ++ bs) ≡ more t (tokens_of bs)
tokens_of_written t bs = ap parsed_tokens (parsed_written t bs) ∙ parsed_tokens_before t (parsed bs)
