-- The course of reading bytes as tokens: what was read, what is left, and that it breaks at the first byte that no tokens have there.
use Rattle.std.proofs.Common.{◌≡◌, ℕ, zero, suc, ◌<◌, true, ◌&&◌, ltb, List, [], ◌∷◌, ◌++◌, length, sym, refl, ap, ◌∙◌, append_assoc, append-nil, arith, length-append}
use mathlib.Core.Bool.{and-true}
use Rattle.meaning.specs.Text.{Token, letter, space, mark, page_of, note, command, given, Tokens, none, more, written, all_written}
use Rattle.meaning.specs.Promise.{in_bytes, in_byte, all_below}
use Rattle.meaning.proofs.Below.{all_below_append}
use Rattle.wire.specs.Bytes.{Parsed, whole, broken, before, closed, token_first, parsed, parsed_tokens, tokens_of}
use Rattle.meaning.proofs.Below.{all_below_parts, all_below_both}
use Rattle.wire.proofs.Parses.{parsed_left, parsed_left_before, parsed_none, parsed_end, parsed_unknown, parsed_step, parsed_note, parsed_command, parsed_written, Ended}

-- no end byte is left for what a note or a command holds
abbrev pub Unclosed : Parsed → Type 0
Unclosed (whole ts left) = left ≡ []
Unclosed (broken ts left) = Unit {0}

-- how bytes are read: a token first, or none
pub data Course : List ℕ → Parsed → Type 0 where
  over : Course [] (whole none [])
  end_first : (bs : List ℕ) → Course (7 ∷ bs) (whole none (7 ∷ bs))
  unknown_first : (x : ℕ) (bs : List ℕ) → 7 < x → Course (x ∷ bs) (broken none (x ∷ bs))
  letter_alone : Course (0 ∷ []) (broken none [])
  mark_alone : Course (2 ∷ []) (broken none [])
  page_of_alone : Course (3 ∷ []) (broken none [])
  command_alone : Course (5 ∷ []) (broken none [])
  note_open : (bs : List ℕ) (p : Parsed) → Unclosed p → Course bs p → Course (4 ∷ bs) (broken none (parsed_left p))
  command_open : (k : ℕ) (bs : List ℕ) (p : Parsed) → Unclosed p → Course bs p → Course (5 ∷ (k ∷ bs)) (broken none (parsed_left p))
  token_then : (t : Token) (bs : List ℕ) (p : Parsed) → Course bs p → Course (written t ++ bs) (before t p)

-- nothing, or a byte that begins no token and is no end
abbrev pub Unknown : List ℕ → Type 0
Unknown [] = Unit {0}
Unknown (x ∷ bs) = 7 < x

-- a course that ends whole has read the tokens' form
abbrev ReadAs : List ℕ → Parsed → Type 0
ReadAs bs (whole ts left) = (bs ≡ all_written ts ++ left) × Ended left
ReadAs bs (broken ts left) = Unknown left

read_as_before : (t : Token) (bs : List ℕ) (p : Parsed) → ReadAs bs p → ReadAs (written t ++ bs) (before t p)
read_as_before t bs (whole ts left) h = (rw append_assoc (ap (λ cs. written t ++ cs) h.0), h.1)
read_as_before t bs (broken ts left) h = h

unknown_unclosed : (bs : List ℕ) (p : Parsed) → Unclosed p → ReadAs bs p → Unknown (parsed_left p)
unknown_unclosed bs (whole ts left) u h = rw u tt
unknown_unclosed bs (broken ts left) u h = h

course_read_as : {bs : List ℕ} {p : Parsed} → Course bs p → ReadAs bs p
course_read_as over = (refl, tt)
course_read_as (end_first bs) = (refl, refl)
course_read_as (unknown_first x bs h) = h
course_read_as letter_alone = tt
course_read_as mark_alone = tt
course_read_as page_of_alone = tt
course_read_as command_alone = tt
course_read_as (note_open bs p u c) = unknown_unclosed bs p u (course_read_as c)
course_read_as (command_open k bs p u c) = unknown_unclosed bs p u (course_read_as c)
course_read_as (token_then t bs p c) = read_as_before t bs p (course_read_as c)

-- every row of bytes has its course
abbrev CoursesBelow : ℕ → Type 0
CoursesBelow n = (cs : List ℕ) → length cs < n → Course cs (parsed cs)

read_closed : (bs : List ℕ) (ts : Tokens) (x : ℕ) (left : List ℕ) → Course bs (whole ts (x ∷ left)) → bs ≡ (all_written ts ++ (7 ∷ [])) ++ left
read_closed bs ts x left c =
    let read : (bs ≡ all_written ts ++ (x ∷ left)) × (x ≡ 7) = course_read_as c in
    read.0 ∙ rw (append_assoc, read.1) refl

shorter_closed : (bs : List ℕ) (ts : Tokens) (x : ℕ) (left : List ℕ) → Course bs (whole ts (x ∷ left)) → length left < length bs
shorter_closed bs ts x left c = omega (arith, ap length (course_read_as c).0, length-append (all_written ts) (x ∷ left))

course_note : (bs : List ℕ) (p : Parsed) → CoursesBelow (length bs) → Course bs p → Course (4 ∷ bs) (closed note parsed p)
course_note bs (whole ts []) rest c = note_open bs (whole ts []) refl c
course_note bs (whole ts (x ∷ left)) rest c =
    rw (read_closed bs ts x left c) (token_then (note ts) left (parsed left) (rest left (shorter_closed bs ts x left c)))
course_note bs (broken ts left) rest c = note_open bs (broken ts left) tt c

course_command : (k : ℕ) (bs : List ℕ) (p : Parsed) → CoursesBelow (length bs) → Course bs p → Course (5 ∷ (k ∷ bs)) (closed (command k) parsed p)
course_command k bs (whole ts []) rest c = command_open k bs (whole ts []) refl c
course_command k bs (whole ts (x ∷ left)) rest c =
    rw (read_closed bs ts x left c) (token_then (command k ts) left (parsed left) (rest left (shorter_closed bs ts x left c)))
course_command k bs (broken ts left) rest c = command_open k bs (broken ts left) tt c

course_first : (x : ℕ) (bs : List ℕ) → CoursesBelow (suc (length bs)) → Course (x ∷ bs) (token_first parsed x bs)
unfolding token_first
course_first zero [] rest = letter_alone
course_first zero (c ∷ bs) rest = token_then (letter c) bs (parsed bs) (rest bs (omega arith))
course_first (suc zero) bs rest = token_then space bs (parsed bs) (rest bs (omega arith))
course_first (suc (suc zero)) [] rest = mark_alone
course_first (suc (suc zero)) (l ∷ bs) rest = token_then (mark l) bs (parsed bs) (rest bs (omega arith))
course_first (suc (suc (suc zero))) [] rest = page_of_alone
course_first (suc (suc (suc zero))) (l ∷ bs) rest = token_then (page_of l) bs (parsed bs) (rest bs (omega arith))
course_first (suc (suc (suc (suc zero)))) bs rest = course_note bs (parsed bs) (λ cs h. rest cs (omega arith)) (rest bs (omega arith))
course_first (suc (suc (suc (suc (suc zero))))) [] rest = command_alone
course_first (suc (suc (suc (suc (suc zero))))) (k ∷ bs) rest = course_command k bs (parsed bs) (λ cs h. rest cs (omega arith)) (rest bs (omega arith))
course_first (suc (suc (suc (suc (suc (suc zero)))))) bs rest = token_then given bs (parsed bs) (rest bs (omega arith))
course_first (suc (suc (suc (suc (suc (suc (suc zero))))))) bs rest = end_first bs
course_first (suc (suc (suc (suc (suc (suc (suc (suc k)))))))) bs rest = unknown_first _ bs (omega arith)

courses_in : (n : ℕ) → CoursesBelow n
courses_in zero cs h = absurd (omega arith)
courses_in (suc n) [] h = rw parsed_none over
courses_in (suc n) (x ∷ bs) h = rw (parsed_step x bs) (course_first x bs (λ cs l. courses_in n cs (omega arith)))

pub course_of : (bs : List ℕ) → Course bs (parsed bs)
course_of bs = courses_in (suc (length bs)) bs (omega arith)

-- what is whole has been read as the form of its tokens
pub parsed_whole : (bs : List ℕ) (ts : Tokens) (left : List ℕ) → parsed bs ≡ whole ts left → (bs ≡ all_written ts ++ left) × Ended left
parsed_whole bs ts left e = let c : Course bs (whole ts left) = rw e at (course_of bs) in course_read_as c

-- the numbers of a form are bytes just where the tokens' are
mutual
  unfolding all_below

  pub all_below_written : (t : Token) → all_below 256 (written t) ≡ in_byte t
  all_below_written (letter c) = and-true (ltb c 256)
  all_below_written space = refl
  all_below_written (mark l) = and-true (ltb l 256)
  all_below_written (page_of l) = and-true (ltb l 256)
  all_below_written (note ts) = all_below_append 256 (all_written ts) (7 ∷ []) ∙ and-true (all_below 256 (all_written ts)) ∙ all_below_all_written ts
  all_below_written (command k ts) =
      ap (λ b. ltb k 256 && b) (all_below_append 256 (all_written ts) (7 ∷ []) ∙ and-true (all_below 256 (all_written ts)) ∙ all_below_all_written ts)
  all_below_written given = refl

  pub all_below_all_written : (ts : Tokens) → all_below 256 (all_written ts) ≡ in_bytes ts
  all_below_all_written none = refl
  all_below_all_written (more t ts) = rw (all_below_append 256 (written t) (all_written ts), all_below_written t, all_below_all_written ts) refl

-- some tokens' form begins so, and what it goes on with is of bytes
pub record Begun (bs : List ℕ) : Type 0 where
  pub tokens : Tokens
  pub rest : List ℕ
  pub form : all_written tokens ≡ bs ++ rest
  pub rest_below : all_below 256 rest ≡ true

begun_none : Begun []
unfolding all_below
begun_none = record { tokens = none; rest = []; form = refl; rest_below = refl }

begun_before : (t : Token) (bs : List ℕ) → Begun bs → Begun (written t ++ bs)
begun_before t bs b =
    record { tokens = more t b.tokens; rest = b.rest; form = rw (append_assoc, b.form) refl; rest_below = b.rest_below }

begun_open :
    (make : Tokens → Token) (opener : List ℕ) (bs : List ℕ) → ((ts : Tokens) → written (make ts) ≡ opener ++ (all_written ts ++ (7 ∷ []))) → Begun bs → Begun (opener ++ bs)
unfolding all_below
begun_open make opener bs opens b =
    record {
      tokens = more (make b.tokens) none;
      rest = b.rest ++ (7 ∷ []);
      form = append-nil (written (make b.tokens)) ∙ opens b.tokens ∙ simp (b.form, append_assoc);
      rest_below = all_below_both 256 b.rest (7 ∷ []) b.rest_below refl;
    }

-- with another row left
abbrev pub leaving : List ℕ → Parsed → Parsed
leaving cs (whole ts bs) = whole ts cs
leaving cs (broken ts bs) = broken ts cs

pub parsed_left_leaving : (cs : List ℕ) (p : Parsed) → parsed_left (leaving cs p) ≡ cs
parsed_left_leaving cs (whole ts bs) = refl
parsed_left_leaving cs (broken ts bs) = refl

-- what was read begins some tokens' form, and nothing behind the first byte that is left was looked at
pub record Reach (bs : List ℕ) (p : Parsed) : Type 0 where
  pub consumed : List ℕ
  pub joined : bs ≡ consumed ++ parsed_left p
  pub begun : Begun consumed
  pub no_further : (x : ℕ) (l cs : List ℕ) → parsed_left p ≡ x ∷ l → parsed (consumed ++ (x ∷ cs)) ≡ leaving (x ∷ cs) p

reach_nothing : (bs : List ℕ) (p : Parsed) → parsed_left p ≡ bs → ((x : ℕ) (l cs : List ℕ) → bs ≡ x ∷ l → parsed (x ∷ cs) ≡ leaving (x ∷ cs) p) → Reach bs p
reach_nothing bs p e f = record { consumed = []; joined = sym e; begun = begun_none; no_further = λ x l cs q. f x l cs (sym e ∙ q) }

reach_alone : (x : ℕ) (t : Token) (rest : List ℕ) → written t ≡ x ∷ rest → all_below 256 rest ≡ true → Reach (x ∷ []) (broken none [])
reach_alone x t rest e h =
    record {
      consumed = x ∷ [];
      joined = refl;
      begun = record { tokens = more t none; rest = rest; form = append-nil (written t) ∙ e; rest_below = h };
      no_further = λ y l cs q. absurd (omega (arith, ap length q));
    }

open_broken :
    (make : Tokens → Token) (p : Parsed) (x : ℕ) (l cs : List ℕ) → Unclosed p → parsed_left p ≡ x ∷ l → closed make parsed (leaving (x ∷ cs) p) ≡ broken none (x ∷ cs)
open_broken make (whole ts left) x l cs u e = absurd (omega (arith, ap length u, ap length e))
open_broken make (broken ts left) x l cs u e = refl

reach_open :
    (make : Tokens → Token) (opener : List ℕ) (bs : List ℕ) (p : Parsed) → ((ts : Tokens) → written (make ts) ≡ opener ++ (all_written ts ++ (7 ∷ []))) →
    ((cs : List ℕ) → parsed (opener ++ cs) ≡ closed make parsed (parsed cs)) → Unclosed p → Reach bs p → Reach (opener ++ bs) (broken none (parsed_left p))
reach_open make opener bs p opens reads u r =
    record {
      consumed = opener ++ r.consumed;
      joined = ap (λ cs. opener ++ cs) r.joined ∙ sym (append_assoc opener r.consumed (parsed_left p));
      begun = begun_open make opener r.consumed opens r.begun;
      no_further = λ x l cs e.
          ap parsed (append_assoc opener r.consumed (x ∷ cs)) ∙ reads (r.consumed ++ (x ∷ cs))
          ∙ ap (closed make parsed) (r.no_further x l cs e) ∙ open_broken make p x l cs u e;
    }

leaving_before : (t : Token) (cs : List ℕ) (p : Parsed) → before t (leaving cs p) ≡ leaving cs (before t p)
leaving_before t cs (whole ts bs) = refl
leaving_before t cs (broken ts bs) = refl

reach_before : (t : Token) (bs : List ℕ) (p : Parsed) → Reach bs p → Reach (written t ++ bs) (before t p)
reach_before t bs p r =
    record {
      consumed = written t ++ r.consumed;
      joined = rw (parsed_left_before t p, append_assoc, r.joined) refl;
      begun = begun_before t r.consumed r.begun;
      no_further = λ x l cs e.
          ap parsed (append_assoc (written t) r.consumed (x ∷ cs)) ∙ parsed_written t (r.consumed ++ (x ∷ cs))
          ∙ ap (before t) (r.no_further x l cs (sym (parsed_left_before t p) ∙ e)) ∙ leaving_before t (x ∷ cs) p;
    }

course_reach : {bs : List ℕ} {p : Parsed} → Course bs p → Reach bs p
unfolding all_below
course_reach over = reach_nothing [] (whole none []) refl (λ x l cs e. absurd (omega (arith, ap length e)))
course_reach (end_first bs) = reach_nothing (7 ∷ bs) (whole none (7 ∷ bs)) refl (λ x l cs e. let q : x ≡ 7 = cc in rw q (parsed_end cs))
course_reach (unknown_first x bs h) = reach_nothing (x ∷ bs) (broken none (x ∷ bs)) refl (λ y l cs e. let q : y ≡ x = cc in rw q (parsed_unknown x cs h))
course_reach letter_alone = reach_alone 0 (letter 0) (0 ∷ []) refl refl
course_reach mark_alone = reach_alone 2 (mark 0) (0 ∷ []) refl refl
course_reach page_of_alone = reach_alone 3 (page_of 0) (0 ∷ []) refl refl
course_reach command_alone = reach_alone 5 (command 0 none) (0 ∷ (7 ∷ [])) refl refl
course_reach (note_open bs p u c) = reach_open note (4 ∷ []) bs p (λ _. refl) parsed_note u (course_reach c)
course_reach (command_open k bs p u c) = reach_open (command k) (5 ∷ (k ∷ [])) bs p (λ _. refl) (parsed_command k) u (course_reach c)
course_reach (token_then t bs p c) = reach_before t bs p (course_reach c)

pub parsed_reach : (bs : List ℕ) (p : Parsed) → parsed bs ≡ p → Reach bs p
parsed_reach bs p e = course_reach (rw e at (course_of bs))

-- and its course says what it is read as
unclosed_closed : (make : Tokens → Token) (p : Parsed) → Unclosed p → closed make parsed p ≡ broken none (parsed_left p)
unclosed_closed make (whole ts left) u = rw u refl
unclosed_closed make (broken ts left) u = refl

pub parsed_course : {bs : List ℕ} {p : Parsed} → Course bs p → parsed bs ≡ p
unfolding token_first
parsed_course over = parsed_none
parsed_course (end_first bs) = parsed_end bs
parsed_course (unknown_first x bs h) = parsed_unknown x bs h
parsed_course letter_alone = parsed_step 0 []
parsed_course mark_alone = parsed_step 2 []
parsed_course page_of_alone = parsed_step 3 []
parsed_course command_alone = parsed_step 5 []
parsed_course (note_open bs p u c) = parsed_note bs ∙ ap (closed note parsed) (parsed_course c) ∙ unclosed_closed note p u
parsed_course (command_open k bs p u c) = parsed_command k bs ∙ ap (closed (command k) parsed) (parsed_course c) ∙ unclosed_closed (command k) p u
parsed_course (token_then t bs p c) = parsed_written t bs ∙ ap (before t) (parsed_course c)

-- the tokens stand first, and behind them is no other
abbrev pub bare : Parsed → Parsed
bare (whole ts left) = whole none left
bare (broken ts left) = broken none left

pub record TokensFirst (bs : List ℕ) (p : Parsed) : Type 0 where
  pub rest : List ℕ
  pub form : bs ≡ all_written (parsed_tokens p) ++ rest
  pub no_more : parsed rest ≡ bare p

tokens_first_none : {bs : List ℕ} {p : Parsed} → Course bs p → bare p ≡ p → parsed_tokens p ≡ none → TokensFirst bs p
tokens_first_none {bs} {p} c e q = record { rest = bs; form = rw q refl; no_more = parsed_course c ∙ sym e }

tokens_first_before : (t : Token) (bs : List ℕ) (p : Parsed) → TokensFirst bs p → TokensFirst (written t ++ bs) (before t p)
tokens_first_before t bs (whole ts left) f = record { rest = f.rest; form = rw (append_assoc, f.form) refl; no_more = f.no_more }
tokens_first_before t bs (broken ts left) f = record { rest = f.rest; form = rw (append_assoc, f.form) refl; no_more = f.no_more }

course_tokens : {bs : List ℕ} {p : Parsed} → Course bs p → TokensFirst bs p
course_tokens over = tokens_first_none over refl refl
course_tokens (end_first bs) = tokens_first_none (end_first bs) refl refl
course_tokens (unknown_first x bs h) = tokens_first_none (unknown_first x bs h) refl refl
course_tokens letter_alone = tokens_first_none letter_alone refl refl
course_tokens mark_alone = tokens_first_none mark_alone refl refl
course_tokens page_of_alone = tokens_first_none page_of_alone refl refl
course_tokens command_alone = tokens_first_none command_alone refl refl
course_tokens (note_open bs p u c) = tokens_first_none (note_open bs p u c) refl refl
course_tokens (command_open k bs p u c) = tokens_first_none (command_open k bs p u c) refl refl
course_tokens (token_then t bs p c) = tokens_first_before t bs p (course_tokens c)

pub parsed_tokens_first : (bs : List ℕ) (p : Parsed) → parsed bs ≡ p → TokensFirst bs p
parsed_tokens_first bs p e = course_tokens (rw e at (course_of bs))

-- and so they are in bytes where the row is
pub tokens_in_bytes : (bs : List ℕ) → all_below 256 bs ≡ true → in_bytes (tokens_of bs) ≡ true
tokens_in_bytes bs h =
    let f : TokensFirst bs (parsed bs) = parsed_tokens_first bs (parsed bs) refl in
    sym (all_below_all_written (tokens_of bs))
    ∙ (all_below_parts 256 (all_written (tokens_of bs)) f.rest (ap (all_below 256) (sym f.form) ∙ h)).0
