-- What is promised. Each is a statement, a type whose proof is owed. Assumes nothing.
use Rattle.std.specs.Prelude.{◌≡◌, ℕ, ◌+◌, ◌*◌, ◌<◌, ◌≤◌, Bool, true, false, ◌&&◌, ◌||◌, ◌⊎◌, List, [], ◌∷◌, ◌++◌, length, take, drop, ◌==◌, nat_le, nat_lt, slice_index_or}
use Rattle.meaning.specs.Text.{pick, Token, letter, space, mark, note, command, given, Tokens, none, more, Atom, ch, gap, tag, foot, Definition, atoms, all_written}
use Rattle.meaning.specs.Lines.{Word, natural, long, BreaksUp, cost, best, Placed, Line, paragraph}
use Rattle.meaning.specs.Pages.{Looks, Page, fill, all_feet, all_lines, pages, page_of, book}
use Rattle.meaning.specs.Calls.{Call, put, cut, define, show, where_is, how_many, put_in, Answer, Limits, Text, turned, after, answers, ran, empty}

-- how a book may look: letters 1 to 63 wide, a width of 1 to 1,000, 1 to 255 rows
pub record GoodLooks (g : Looks) : Type 0 where
  pub wide_enough : (c : ℕ) → (0 < g.wide c) × (g.wide c ≤ 63)
  pub across_enough : (0 < g.across) × (g.across ≤ 1000)
  pub rows_enough : (0 < g.rows) × (g.rows ≤ 255)

abbrev pub GoodLimits : Limits → Type 0
GoodLimits l = (l.paragraphs ≤ 4096) × (l.tokens ≤ 65536) × (l.definitions ≤ 1024) × (l.bulk ≤ 4096)

unfoldable pub all_below : ℕ → List ℕ → Bool
all_below b [] = true
all_below b (x ∷ xs) = nat_lt x b && all_below b xs

-- THE MAIN PROMISE: the setter is what the contracts of the session's open and call say, and nothing else: its state is the lent memory, in which tokens stand by
-- themselves; next is what a call leaves there, says what it answers. It may keep lines, pages and numbers as it likes. It is right if for every list of calls its
-- answers are those of the text as the calls left it, set from nothing
pub record Memory : Type 0 where
  pub tokens : List ℕ
  pub words : List ℕ
  pub kept : List ℕ  -- what is kept of paragraphs: too small for a copy of their tokens

pub record Setter : Type 0 where
  pub opened : Limits → Looks → Memory
  pub next : Memory → Call → Memory
  pub says : Memory → Call → Answer

unfoldable pub told_by : Setter → Memory → List Call → List Answer
told_by e s [] = []
told_by e s (c ∷ cs) = e.says s c ∷ told_by e (e.next s c) cs

unfoldable pub left_by : Setter → Memory → List Call → Memory
left_by e s [] = s
left_by e s (c ∷ cs) = left_by e (e.next s c) cs

-- tokens whose numbers a byte can carry
abbrev mutual
  pub in_bytes : Tokens → Bool
  in_bytes none = true
  in_bytes (more t ts) = in_byte t && in_bytes ts

  pub in_byte : Token → Bool
  in_byte (letter c) = nat_lt c 256
  in_byte space = true
  in_byte (mark l) = nat_lt l 256
  in_byte (Rattle.meaning.specs.Text.page_of l) = nat_lt l 256
  in_byte (note ts) = in_bytes ts
  in_byte (command k ts) = nat_lt k 256 && in_bytes ts
  in_byte given = true

-- calls whose numbers their fields can carry: a page in four bytes, all others in two
unfoldable pub readable : Call → Bool
readable (put k ts) = nat_lt k 65536 && in_bytes ts
readable (cut k) = nat_lt k 65536
readable (define k ts) = nat_lt k 65536 && in_bytes ts
readable (show k r n) = (nat_lt k 4294967296 && nat_lt r 65536) && nat_lt n 65536
readable (where_is q) = nat_lt q 65536
readable how_many = true
readable (put_in k ts) = nat_lt k 65536 && in_bytes ts

unfoldable pub all_readable : List Call → Bool
all_readable [] = true
all_readable (c ∷ cs) = readable c && all_readable cs

-- for the stage's tokens and calls, as the limits have them
unfoldable pub Right : (ℕ → Bool) → (ℕ → Bool) → Setter → Type 0
Right ts ks e =
    (l : Limits) (g : Looks) (cs : List Call) → l.tokens_can ≡ ts → l.calls_can ≡ ks → GoodLooks g → GoodLimits l → all_readable cs ≡ true →
    told_by e (e.opened l g) cs ≡ answers l g empty cs

-- a call that is turned away leaves memory as it was
unfoldable pub RefusalKeeps : (ℕ → Bool) → (ℕ → Bool) → Setter → Type 0
RefusalKeeps ts ks e =
    (l : Limits) (g : Looks) (cs : List Call) (c : Call) → l.tokens_can ≡ ts → l.calls_can ≡ ks → GoodLooks g → GoodLimits l → all_readable (cs ++ (c ∷ [])) ≡ true →
    0 < turned l g (ran l g empty cs) c → e.next (left_by e (e.opened l g) cs) c ≡ left_by e (e.opened l g) cs

-- memory is of bytes for tokens and of words of 64 bits, and stays as large as the limits ask for
unfoldable pub EnoughMemory : Setter → Type 0
EnoughMemory e =
    (l : Limits) (g : Looks) (cs : List Call) → GoodLooks g → GoodLimits l → all_readable cs ≡ true →
    let m : Memory = left_by e (e.opened l g) cs in
    (length m.tokens ≤ 4 * l.tokens) × (all_below 256 m.tokens ≡ true)
    × (length m.words + length m.kept ≤ 8 * (l.paragraphs + l.tokens + l.definitions) + 32 * l.bulk + 4096) × (all_below 18446744073709551616 m.words ≡ true)
    × (length m.kept ≤ 4 * l.paragraphs + 64) × (all_below 18446744073709551616 m.kept ≡ true)

-- what was not changed is not set anew: in a text without commands, notes and page numbers, once its pages are known, one paragraph may be put, and how many pages
-- there are be asked, from what is kept, whatever stands in the rest of memory
abbrev mutual
  pub no_pages : Tokens → Bool
  no_pages none = true
  no_pages (more t ts) = no_pages_one t && no_pages ts

  pub no_pages_one : Token → Bool
  no_pages_one (letter c) = true
  no_pages_one space = true
  no_pages_one (mark l) = true
  no_pages_one (Rattle.meaning.specs.Text.page_of l) = false
  no_pages_one (note ts) = false
  no_pages_one (command k ts) = false
  no_pages_one given = true

unfoldable pub all_plain : List Tokens → Bool
all_plain [] = true
all_plain (p ∷ ps) = no_pages p && all_plain ps

unfoldable pub numbers_only : List Call → Bool
numbers_only [] = true
numbers_only (put k ts ∷ cs) = false
numbers_only (cut k ∷ cs) = false
numbers_only (define k ts ∷ cs) = false
numbers_only (put_in k ts ∷ cs) = false
numbers_only (show k r n ∷ cs) = false
numbers_only (where_is q ∷ cs) = false
numbers_only (how_many ∷ cs) = numbers_only cs

abbrev pub only_kept : Memory → List ℕ → List ℕ → Memory
only_kept m ts ws = record { tokens = ts; words = ws; kept = m.kept }

unfoldable pub FromKept : (ℕ → Bool) → (ℕ → Bool) → Setter → Type 0
FromKept ts ks e =
    (l : Limits) (g : Looks) (cs qs : List Call) (k : ℕ) (p : Tokens) (others words : List ℕ) → l.tokens_can ≡ ts → l.calls_can ≡ ks → ks 5 ≡ true →
    GoodLooks g → GoodLimits l → all_readable (cs ++ (put k p ∷ qs)) ≡ true → all_below 256 others ≡ true →
    all_plain (ran l g empty cs).paragraphs ≡ true → no_pages p ≡ true → turned l g (ran l g empty cs) (put k p) ≡ 0 → numbers_only qs ≡ true →
    let m : Memory = left_by e (e.opened l g) (cs ++ (how_many ∷ [])) in
    length others ≡ length m.tokens → length words ≡ length m.words → told_by e (only_kept m others words) (put k p ∷ qs) ≡ answers l g (ran l g empty cs) (put k p ∷ qs)

-- the form of a text is read in one way only
unfoldable pub OneReading : Type 0
OneReading = (a b : Tokens) → all_written a ≡ all_written b → a ≡ b

-- the lines of a paragraph are the best of all: no way to break it costs less, and of those that cost as much the earlier lines are the longest
unfoldable pub earlier : List ℕ → List ℕ → Bool
earlier [] ks = false
earlier (j ∷ js) [] = true
earlier (j ∷ js) (k ∷ ks) = nat_lt k j || (j == k && earlier js ks)

unfoldable pub BestOfAll : Type 0
BestOfAll =
    (wide : ℕ → ℕ) (w : ℕ) (ws : List Word) →
    BreaksUp ws (best wide w ws).ks × (cost wide w ws (best wide w ws).ks ≡ (best wide w ws).costs)
    × ((ks : List ℕ) → BreaksUp ws ks →
    ((best wide w ws).costs ≤ cost wide w ws ks) × (cost wide w ws ks ≡ (best wide w ws).costs → earlier ks (best wide w ws).ks ≡ false))

-- a line sticks out only if a word of it is wider than the lines are
unfoldable pub all_fit : (ℕ → ℕ) → ℕ → List Word → Bool
all_fit wide w [] = true
all_fit wide w (x ∷ xs) = nat_le (long wide x.letters) w && all_fit wide w xs

unfoldable pub lines_fit : (ℕ → ℕ) → ℕ → List Word → List ℕ → Bool
lines_fit wide w ws [] = true
lines_fit wide w ws (k ∷ ks) = nat_le (natural wide (take k ws)) w && lines_fit wide w (drop k ws) ks

unfoldable pub SticksOut : Type 0
SticksOut = (wide : ℕ → ℕ) (w : ℕ) (ws : List Word) → length ws ≤ 4096 → w ≤ 1000 → all_fit wide w ws ≡ true → lines_fit wide w ws (best wide w ws).ks ≡ true

-- every letter is set once, in order
unfoldable pub letters_of : List Atom → List ℕ
letters_of [] = []
letters_of (ch c ∷ xs) = c ∷ letters_of xs
letters_of (gap ∷ xs) = letters_of xs
letters_of (tag l ∷ xs) = letters_of xs
letters_of (foot f ∷ xs) = letters_of xs

unfoldable pub set_of : List Placed → List ℕ
set_of [] = []
set_of (p ∷ ps) = p.what ∷ set_of ps

unfoldable pub all_set : List Line → List ℕ
all_set [] = []
all_set (l ∷ ls) = set_of l.letters ++ all_set ls

unfoldable pub LettersKept : Type 0
LettersKept = (wide : ℕ → ℕ) (w : ℕ) (xs : List Atom) → all_set (paragraph wide w xs) ≡ letters_of xs

-- pages have all lines, in order, each page with just the notes of its lines, and no more rows than it has, unless it is one line with its notes
unfoldable pub lines_of : List Page → List Line
lines_of [] = []
lines_of (p ∷ ps) = p.lines ++ lines_of ps

unfoldable pub notes_of : Looks → List Line → List Line
notes_of g [] = []
notes_of g (l ∷ ls) = all_feet g l.feet ++ notes_of g ls

unfoldable pub PageByPage : Type 0
PageByPage =
    (g : Looks) (ls : List Line) →
    (lines_of (fill g ls [] []) ≡ ls)
    × ((k : ℕ) → k < length (fill g ls [] []) →
    let p : Page = slice_index_or (fill g ls [] []) k (record { lines = []; notes = [] }) in
    (p.notes ≡ notes_of g p.lines) × ((length p.lines + length p.notes ≤ g.rows) ⊎ (length p.lines ≡ 1)))

-- page numbers are right: at rest the pages are made with numbers that are those of these very pages
unfoldable pub NumbersRight : Type 0
NumbersRight =
    (g : Looks) (ds : List Definition) (ps : List Tokens) → (book g ds ps).at_rest ≡ true →
    (pg : ℕ → ℕ) × ((book g ds ps).made ≡ pages g ds pg ps) × ((l : ℕ) → l < 256 → pg l ≡ page_of l (book g ds ps).made 1)

-- and a text without page numbers in it is always at rest
unfoldable pub AtRest : Type 0
AtRest = (g : Looks) (ds : List Definition) (ps : List Tokens) → ((pg qg : ℕ → ℕ) → all_lines g ds pg ps ≡ all_lines g ds qg ps) → (book g ds ps).at_rest ≡ true

-- paragraphs are set each by itself
unfoldable pub EachByItself : Type 0
EachByItself =
    (g : Looks) (ds : List Definition) (pg : ℕ → ℕ) (ps qs : List Tokens) (p : Tokens) →
    all_lines g ds pg (ps ++ (p ∷ qs)) ≡ all_lines g ds pg ps ++ (paragraph g.wide g.across (atoms ds pg p) ++ all_lines g ds pg qs)

-- a call that is turned away, and a question, change nothing
unfoldable pub TurnedAway : Type 0
TurnedAway = (l : Limits) (g : Looks) (t : Text) (c : Call) (cs : List Call) → 0 < turned l g t c → answers l g (after l g t c) cs ≡ answers l g t cs

unfoldable pub OnlyAsked : Type 0
OnlyAsked =
    (l : Limits) (g : Looks) (t : Text) (k r n q : ℕ) →
    (after l g t (show k r n) ≡ t) × (after l g t (where_is q) ≡ t) × (after l g t how_many ≡ t)
