-- How much a paragraph would be when its commands are gone, counted without writing it out. Whatever is given to tokens, what they are counts
-- so much of its own, and what is given so many times; in a note marks and notes are left out, so that what is given there counts otherwise.
--   Form, form_of      the five numbers that say so, of a row of tokens
--   form_at            those of a command, commands in it gone so deep
--   Counts             that a row of atoms counts as a form says
--   stopped            a form whose numbers past a limit are all told as the first past it
--   CountsRight        the forms are right, and so are stopped ones as to whether a paragraph is past the limit
use Rattle.std.specs.Prelude.{◌≡◌, ℕ, zero, suc, ◌+◌, ◌*◌, List, length, min, nat_le}
use Rattle.meaning.specs.Text.{Token, letter, space, mark, page_of, note, command, given, Tokens, none, more, Atom, plainly, Definition, defined, meant, atoms}
use Rattle.meaning.specs.Calls.{bulk}

pub record Form : Type 0 where
  pub own : ℕ  -- what counts whatever is given
  pub given : ℕ  -- how many times all that is given counts
  pub noted : ℕ  -- and how many times what a note would have of it
  pub text : ℕ  -- in a note, what counts whatever is given
  pub text_given : ℕ  -- and how many times what the note would have of it

abbrev pub nothing : Form
nothing = record { own = 0; given = 0; noted = 0; text = 0; text_given = 0 }

-- so many letters or gaps
abbrev pub letters : ℕ → Form
letters n = record { own = n; given = 0; noted = 0; text = n; text_given = 0 }

abbrev pub marked : Form
marked = record { own = 1; given = 0; noted = 0; text = 0; text_given = 0 }

abbrev pub all_given : Form
all_given = record { own = 0; given = 1; noted = 0; text = 0; text_given = 1 }

-- one behind the other
abbrev pub together : Form → Form → Form
together f g =
    record { own = f.own + g.own; given = f.given + g.given; noted = f.noted + g.noted; text = f.text + g.text; text_given = f.text_given + g.text_given }

-- a note with this in it
abbrev pub footed : Form → Form
footed f = record { own = 1 + f.text; given = 0; noted = f.text_given; text = 0; text_given = 0 }

-- the first, with the second given to it
abbrev pub given_to : Form → Form → Form
given_to c f =
    record {
      own = c.own + c.given * f.own + c.noted * f.text;
      given = c.given * f.given;
      noted = c.given * f.noted + c.noted * f.text_given;
      text = c.text + c.text_given * f.text;
      text_given = c.text_given * f.text_given;
    }

-- with the forms of commands
abbrev mutual
  pub form_one : Token → (ℕ → Form) → Form
  form_one (letter c) forms = letters 1
  form_one space forms = letters 1
  form_one (mark l) forms = marked
  form_one (page_of l) forms = letters 8
  form_one (note ts) forms = footed (form_of ts forms)
  form_one (command k ts) forms = given_to (forms k) (form_of ts forms)
  form_one given forms = all_given

  pub form_of : Tokens → (ℕ → Form) → Form
  form_of none forms = nothing
  form_of (more t ts) forms = together (form_one t forms) (form_of ts forms)

-- at depth 0 a question mark
unfoldable pub form_at : ℕ → List Definition → ℕ → Form
form_at zero ds k = letters 1
form_at (suc n) ds k = form_of (defined ds k (more given none)) (form_at n ds)

-- these atoms, when those are given
pub record Counts (xs : List Atom) (f : Form) (arg : List Atom) : Type 0 where
  pub all : bulk xs ≡ f.own + f.given * bulk arg + f.noted * length (plainly arg)
  pub plain : length (plainly xs) ≡ f.text + f.text_given * length (plainly arg)

abbrev pub stop : ℕ → ℕ → ℕ
stop most n = min n (most + 1)

abbrev pub stopped : ℕ → Form → Form
stopped most f =
    record { own = stop most f.own; given = stop most f.given; noted = stop most f.noted; text = stop most f.text; text_given = stop most f.text_given }

-- counted with stopped forms alone
unfoldable pub stopped_at : ℕ → ℕ → List Definition → ℕ → Form
stopped_at most zero ds k = stopped most (letters 1)
stopped_at most (suc n) ds k = stopped most (form_of (defined ds k (more given none)) (stopped_at most n ds))

-- page numbers of eight digits, as a paragraph's fit is told
abbrev pub eight_digits : ℕ → ℕ
eight_digits l = 99999999

pub record CountsRight : Type 0 where
  pub of_command : (n : ℕ) (ds : List Definition) (k : ℕ) (arg : List Atom) → Counts (meant n ds eight_digits k arg) (form_at n ds k) arg
  pub of_paragraph : (ds : List Definition) (ts : Tokens) → bulk (atoms ds eight_digits ts) ≡ (form_of ts (form_at 16 ds)).own
  pub when_stopped : (most n : ℕ) (ds : List Definition) (k : ℕ) → stopped_at most n ds k ≡ stopped most (form_at n ds k)
  pub within :
      (most : ℕ) (ds : List Definition) (ts : Tokens) →
      nat_le (bulk (atoms ds eight_digits ts)) most ≡ nat_le (stopped most (form_of ts (stopped_at most 16 ds))).own most
