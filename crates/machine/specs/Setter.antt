-- The machine: what opening and calls leave in the lent memory, and what is answered.
--   Wish       what a call asks of the book: an edit, a question, or nothing that the stage can do
--   bulk_of    how much a paragraph of these tokens is: the stage has no definitions
--   shown_in   rows of a page, as the book in memory has them
--   setter     the machine that the main promise is about
--   NoBook     memory that is no open book refuses every call, and stays as it was
use Rattle.std.specs.Prelude.{◌≡◌, ℕ, ◌+◌, ◌*◌, false, List, [], length, take, drop, is_ok, Ok, Err, Result, nat_le, nat_lt, slice_index}
use Rattle.meaning.specs.Text.{pick, Tokens, atoms, all_written}
use Rattle.meaning.specs.Calls.{Call, put, cut, define, show, where_is, how_many, put_in, Answer, done, refused, rows, numbers, size, bulk, good_call, page_rows}
use Rattle.meaning.specs.Promise.{Memory, Setter}
use Rattle.wire.specs.Refusals.{refusal_number, refusal_place}
use Rattle.wire.specs.declared.refusal.Refusal.{Refusal}
use Rattle.store.specs.Opened.{limits_of, opened, rest_of}
use Rattle.store.specs.Kept.{limits_at, is_open}
use Rattle.store.specs.Changes.{Edit, put_edit, put_in_edit, cut_edit, editing, edited_tokens, edited_rest}
use Rattle.words.specs.Atoms.{cleared}
use Rattle.layout.specs.Books.{pages_in}
use Rattle.layout.specs.Asked.{page_of}

pub data Wish : Type 0 where
  to_edit : Edit → Wish
  to_show : ℕ → ℕ → ℕ → Wish  -- a page, a row of it, and how many
  to_find : Wish  -- where a name is
  to_count : Wish  -- how many pages there are
  unfit : Wish

-- with page numbers of eight digits, as a text's fit has it
abbrev pub bulk_of : Tokens → ℕ
bulk_of ts = bulk (atoms [] (λ l. 99999999) ts)

-- the call as what it asks for, where it is good
abbrev pub wish_of : List ℕ → Call → Wish
wish_of rs (put k ts) = to_edit (put_edit k (all_written ts) (size ts) (bulk_of ts) rs)
wish_of rs (cut k) = to_edit (cut_edit k)
wish_of rs (define k ts) = unfit
wish_of rs (show k r n) = to_show k r n
wish_of rs (where_is q) = to_find
wish_of rs how_many = to_count
wish_of rs (put_in k ts) = to_edit (put_in_edit k (all_written ts) (size ts) (bulk_of ts))

-- a call that the stage can't do, or whose tokens or numbers are not good, asks for nothing
abbrev pub wish : List ℕ → Call → Wish
wish rs c = pick (good_call (limits_of (limits_at rs)) c) (wish_of rs c) unfit

abbrev pub told_of : Result (Unit {0}) Refusal → Answer
told_of (Ok u) = done
told_of (Err why) = refused (refusal_number why) (refusal_place why)

-- rows of a page of the book in memory, or that it is not there, or has not so many
abbrev pub shown_in : List ℕ → List ℕ → ℕ → ℕ → ℕ → Answer
shown_in ts rs k r n =
    pick (nat_lt k (length (pages_in ts rs)))
    (pick (nat_le (r + n) (length (page_rows (page_of (pages_in ts rs) k)))) (rows (take n (drop r (page_rows (page_of (pages_in ts rs) k))))) (refused 5 r))
    (refused 5 k)

-- no question is answered where memory is no open book
abbrev pub if_open : Memory → Answer → Answer
if_open m a = pick (is_open (length m.tokens) (rest_of m)) a (refused 3 2)

-- there are no names yet
abbrev pub says_to : Wish → Memory → Answer
says_to unfit m = refused 2 0
says_to (to_edit e) m = told_of (editing e (length m.tokens) (rest_of m))
says_to (to_show k r n) m = if_open m (shown_in m.tokens (rest_of m) k r n)
says_to to_find m = if_open m (numbers 0 0)
says_to to_count m = if_open m (numbers (length (pages_in m.tokens (rest_of m))) 1)

-- when pages were made, what a paragraph can need of the working part is 0
abbrev pub worked_on : Memory → Memory
worked_on m =
    pick (is_open (length m.tokens) (rest_of m)) (record { tokens = m.tokens; words = cleared (17 * slice_index (rest_of m) 3) m.words; kept = m.kept }) m

abbrev pub left_by_wish : Wish → Memory → Memory
left_by_wish unfit m = m
left_by_wish (to_edit e) m =
    pick (is_ok (editing e (length m.tokens) (rest_of m)))
    (record { tokens = edited_tokens e m.tokens m.kept; words = m.words; kept = edited_rest e m.kept })
    m
left_by_wish (to_show k r n) m = worked_on m
left_by_wish to_find m = m
left_by_wish to_count m = worked_on m

unfoldable pub says : Memory → Call → Answer
says m c = says_to (wish (rest_of m) c) m

unfoldable pub next : Memory → Call → Memory
next m c = left_by_wish (wish (rest_of m) c) m

abbrev pub setter : Setter
setter = record { opened = opened; next = next; says = says }

-- what is not good is refused by 2 there too, and all else by 3
abbrev pub NoBook : Type 0
NoBook =
    (m : Memory) (c : Call) → is_open (length m.tokens) (rest_of m) ≡ false →
    (next m c ≡ m) × (says m c ≡ pick (good_call (limits_of (limits_at (rest_of m))) c) (refused 3 2) (refused 2 0))
