-- What is done with a text, and what is asked. Assumes nothing: these are definitions.
use Rattle.std.specs.Prelude.{ℕ, zero, suc, ◌+◌, Bool, true, false, not, ◌&&◌, List, [], ◌∷◌, ◌++◌, length, take, drop, ◌==◌, nat_le, nat_lt, slice_index_or, slice_set}
use Rattle.meaning.specs.Text.{pick, Token, letter, space, mark, page_of, note, command, given, Tokens, none, more, Atom, ch, gap, tag, foot, Definition, atoms}
use Rattle.meaning.specs.Pages.{Looks, Page, Book, book}
use Rattle.meaning.specs.Lines.{Placed, Line}

pub data Call : Type 0 where
  put : ℕ → Tokens → Call  -- paragraph k becomes this; the one after the last is new
  cut : ℕ → Call  -- paragraph k goes
  define : ℕ → Tokens → Call  -- command k stands for this from now on, everywhere
  show : ℕ → ℕ → ℕ → Call  -- of page k, from 0 on, from a row, so many rows
  where_is : ℕ → Call  -- the page number of a place, 0 if it is not there
  how_many : Call  -- how many pages, and 1 if all page numbers are right
  put_in : ℕ → Tokens → Call  -- a new paragraph before paragraph k

pub data Answer : Type 0 where
  done : Answer
  refused : ℕ → ℕ → Answer
  rows : List (List Placed) → Answer
  numbers : ℕ → ℕ → Answer

-- what a stage can do: kinds of tokens, as numbered in the form, and calls; and what a text is opened with
pub record Limits : Type 0 where
  pub tokens_can : ℕ → Bool
  pub calls_can : ℕ → Bool
  pub paragraphs : ℕ
  pub tokens : ℕ
  pub definitions : ℕ
  pub bulk : ℕ  -- how much a paragraph may be when its commands are gone

pub record Text : Type 0 where
  pub definitions : List Definition
  pub paragraphs : List Tokens

abbrev mutual
  pub size : Tokens → ℕ
  size none = 0
  size (more t ts) = size_of t + size ts

  pub size_of : Token → ℕ
  size_of (letter c) = 1
  size_of space = 1
  size_of (mark l) = 1
  size_of (page_of l) = 1
  size_of (note ts) = 2 + size ts
  size_of (command k ts) = 2 + size ts
  size_of given = 1

abbrev mutual
  pub good : (ℕ → Bool) → Tokens → ℕ → Bool
  good can none d = true
  good can (more t ts) d = good_one can t d && good can ts d

  pub good_one : (ℕ → Bool) → Token → ℕ → Bool
  good_one can (letter c) d = can 0 && (nat_le 33 c && nat_le c 126)
  good_one can space d = can 1
  good_one can (mark l) d = can 2 && nat_lt l 256
  good_one can (page_of l) d = can 3 && nat_lt l 256
  good_one can (note ts) zero = false
  good_one can (note ts) (suc d) = can 4 && good can ts d
  good_one can (command k ts) zero = false
  good_one can (command k ts) (suc d) = can 5 && (nat_lt k 256 && good can ts d)
  good_one can given d = can 6

unfoldable pub sizes : List Tokens → ℕ
sizes [] = 0
sizes (p ∷ ps) = size p + sizes ps

unfoldable pub def_sizes : List Definition → ℕ
def_sizes [] = 0
def_sizes (d ∷ ds) = size d.as_what + def_sizes ds

-- how much a paragraph is when its commands are gone, with page numbers of eight digits
unfoldable pub bulk : List Atom → ℕ
bulk [] = 0
bulk (ch c ∷ xs) = suc (bulk xs)
bulk (gap ∷ xs) = suc (bulk xs)
bulk (tag l ∷ xs) = suc (bulk xs)
bulk (foot f ∷ xs) = suc (length f + bulk xs)

unfoldable pub short_all : ℕ → List Definition → List Tokens → Bool
short_all b ds [] = true
short_all b ds (p ∷ ps) = nat_le (bulk (atoms ds (λ l. 99999999) p)) b && short_all b ds ps

abbrev pub fits : Limits → Text → Bool
fits l t =
    (nat_le (length t.paragraphs) l.paragraphs && nat_le (length t.definitions) l.definitions)
    && (nat_le (sizes t.paragraphs + def_sizes t.definitions) l.tokens && short_all l.bulk t.definitions t.paragraphs)

unfoldable pub call_number : Call → ℕ
call_number (put k ts) = 0
call_number (cut k) = 1
call_number (define k ts) = 2
call_number (show k r n) = 3
call_number (where_is p) = 4
call_number how_many = 5
call_number (put_in k ts) = 6

unfoldable pub good_fields : Limits → Call → Bool
good_fields l (put k ts) = good l.tokens_can ts 16
good_fields l (cut k) = true
good_fields l (define k ts) = nat_lt k 256 && good l.tokens_can ts 16
good_fields l (show k r n) = nat_le n 8
good_fields l (where_is p) = nat_lt p 256
good_fields l how_many = true
good_fields l (put_in k ts) = good l.tokens_can ts 16

abbrev pub good_call : Limits → Call → Bool
good_call l c = l.calls_can (call_number c) && good_fields l c

-- the rows of a page: its lines, then its notes' lines
unfoldable pub letters_of : List Line → List (List Placed)
letters_of [] = []
letters_of (l ∷ ls) = l.letters ∷ letters_of ls

abbrev pub no_page : Page
no_page = record { lines = []; notes = [] }

abbrev pub page_rows : Page → List (List Placed)
page_rows p = letters_of p.lines ++ letters_of p.notes

-- a command that is defined anew loses its old definition
unfoldable pub without : ℕ → List Definition → List Definition
without k [] = []
without k (x ∷ xs) = pick (x.nr == k) (without k xs) (x ∷ without k xs)

unfoldable pub changed : Text → Call → Text
changed t (put k ts) = record { definitions = t.definitions; paragraphs = pick (k == length t.paragraphs) (t.paragraphs ++ (ts ∷ [])) (slice_set t.paragraphs k ts) }
changed t (cut k) = record { definitions = t.definitions; paragraphs = take k t.paragraphs ++ drop (suc k) t.paragraphs }
changed t (define k ts) = record { definitions = without k t.definitions ++ (record { nr = k; as_what = ts } ∷ []); paragraphs = t.paragraphs }
changed t (show k r n) = t
changed t (where_is p) = t
changed t how_many = t
changed t (put_in k ts) = record { definitions = t.definitions; paragraphs = take k t.paragraphs ++ (ts ∷ drop k t.paragraphs) }

-- why a call is turned away; 0 is not at all
unfoldable pub turned_by : Looks → Text → Call → ℕ
turned_by g t (put k ts) = pick (nat_le k (length t.paragraphs)) 0 4
turned_by g t (cut k) = pick (nat_lt k (length t.paragraphs)) 0 4
turned_by g t (define k ts) = 0
turned_by g t (show k r n) =
    let b : List Page = (book g t.definitions t.paragraphs).made in
    pick (nat_lt k (length b)) (pick (nat_le (r + n) (length (page_rows (slice_index_or b k no_page)))) 0 5) 5
turned_by g t (where_is p) = 0
turned_by g t how_many = 0
turned_by g t (put_in k ts) = pick (nat_le k (length t.paragraphs)) 0 4

abbrev pub turned : Limits → Looks → Text → Call → ℕ
turned l g t c = pick (good_call l c) (pick (turned_by g t c == 0) (pick (fits l (changed t c)) 0 6) (turned_by g t c)) 2

abbrev pub after : Limits → Looks → Text → Call → Text
after l g t c = pick (turned l g t c == 0) (changed t c) t

unfoldable pub told : Looks → Text → Call → Answer
told g t (show k r n) = rows (take n (drop r (page_rows (slice_index_or (book g t.definitions t.paragraphs).made k no_page))))
told g t (where_is p) = numbers (Rattle.meaning.specs.Pages.page_of p (book g t.definitions t.paragraphs).made 1) 0
told g t how_many =
    let b : Book = book g t.definitions t.paragraphs in
    numbers (length b.made) (pick b.at_rest 1 0)
told g t (put k ts) = done
told g t (cut k) = done
told g t (define k ts) = done
told g t (put_in k ts) = done

-- the place that is named: the paragraph or page, else 0
unfoldable pub place : Looks → Text → Call → ℕ → ℕ
place g t (put k ts) n = pick (n == 4) k 0
place g t (cut k) n = pick (n == 4) k 0
place g t (show k r m) n = pick (n == 5) (pick (nat_lt k (length (book g t.definitions t.paragraphs).made)) r k) 0
place g t (define k ts) n = 0
place g t (where_is p) n = 0
place g t how_many n = 0
place g t (put_in k ts) n = pick (n == 4) k 0

abbrev pub answer : Limits → Looks → Text → Call → Answer
answer l g t c = pick (turned l g t c == 0) (told g t c) (refused (turned l g t c) (place g t c (turned l g t c)))

unfoldable pub answers : Limits → Looks → Text → List Call → List Answer
answers l g t [] = []
answers l g t (c ∷ cs) = answer l g t c ∷ answers l g (after l g t c) cs

unfoldable pub ran : Limits → Looks → Text → List Call → Text
ran l g t [] = t
ran l g t (c ∷ cs) = ran l g (after l g t c) cs

abbrev pub empty : Text
empty = record { definitions = []; paragraphs = [] }

-- the first stage has letters and spaces, and all calls but define; the last stage has all kinds of tokens and all calls
abbrev pub thin_tokens : ℕ → Bool
thin_tokens k = nat_lt k 2

abbrev pub thin_calls : ℕ → Bool
thin_calls k = not (k == 2)
