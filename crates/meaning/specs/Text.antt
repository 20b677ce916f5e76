-- What is written: letters, spaces, marks, page numbers, notes, and commands with what is given to them. Assumes nothing: these are definitions.
use Rattle.std.specs.Prelude.{ℕ, zero, suc, ◌+◌, ◌/◌, ◌%◌, Bool, true, false, List, [], ◌∷◌, ◌++◌, ◌==◌, nat_lt}

abbrev pub pick : {A : Type 0} → Bool → A → A → A
pick true a b = a
pick false a b = b

mutual
  pub data Token : Type 0 where
    letter : ℕ → Token
    space : Token
    mark : ℕ → Token  -- this place is called so
    page_of : ℕ → Token  -- the number of the page on which a place is
    note : Tokens → Token  -- goes to the foot of the page
    command : ℕ → Tokens → Token  -- stands for what it was defined as, with something given
    given : Token  -- in a definition: what is given

  pub data Tokens : Type 0 where
    none : Tokens
    more : Token → Tokens → Tokens

-- after commands are gone: letters, gaps, marks, and notes as letters with 32 for gaps
pub data Atom : Type 0 where
  ch : ℕ → Atom
  gap : Atom
  tag : ℕ → Atom
  foot : List ℕ → Atom

-- a number in decimal digits
unfoldable pub digits_in : ℕ → ℕ → List Atom
digits_in zero n = []
digits_in (suc k) n = pick (nat_lt n 10) (ch (48 + n) ∷ []) (digits_in k (n / 10) ++ (ch (48 + n % 10) ∷ []))

abbrev pub digits : ℕ → List Atom
digits n = digits_in 8 n

unfoldable pub plainly : List Atom → List ℕ
plainly [] = []
plainly (ch c ∷ xs) = c ∷ plainly xs
plainly (gap ∷ xs) = 32 ∷ plainly xs
plainly (tag l ∷ xs) = plainly xs
plainly (foot f ∷ xs) = plainly xs

-- with page numbers, a meaning for commands, and what is given
abbrev mutual
  pub flat_one : Token → (ℕ → ℕ) → (ℕ → List Atom → List Atom) → List Atom → List Atom
  flat_one (letter c) pg does arg = ch c ∷ []
  flat_one space pg does arg = gap ∷ []
  flat_one (mark l) pg does arg = tag l ∷ []
  flat_one (page_of l) pg does arg = digits (pg l)
  flat_one (note ts) pg does arg = foot (plainly (flat ts pg does arg)) ∷ []
  flat_one (command k ts) pg does arg = does k (flat ts pg does arg)
  flat_one given pg does arg = arg

  pub flat : Tokens → (ℕ → ℕ) → (ℕ → List Atom → List Atom) → List Atom → List Atom
  flat none pg does arg = []
  flat (more t ts) pg does arg = flat_one t pg does arg ++ flat ts pg does arg

-- definitions, the last of a number counts; one that isn't there stands for what is given
pub record Definition : Type 0 where
  pub nr : ℕ
  pub as_what : Tokens

unfoldable pub defined : List Definition → ℕ → Tokens → Tokens
defined [] k d = d
defined (x ∷ xs) k d = defined xs k (pick (x.nr == k) x.as_what d)

-- commands in commands, so deep; deeper there stands a question mark
unfoldable pub meant : ℕ → List Definition → (ℕ → ℕ) → ℕ → List Atom → List Atom
meant zero ds pg k arg = ch 63 ∷ []
meant (suc n) ds pg k arg = flat (defined ds k (more given none)) pg (meant n ds pg) arg

abbrev pub atoms : List Definition → (ℕ → ℕ) → Tokens → List Atom
atoms ds pg ts = flat ts pg (meant 16 ds pg) []

-- the form of tokens as a row of numbers
abbrev mutual
  pub written : Token → List ℕ
  written (letter c) = 0 ∷ (c ∷ [])
  written space = 1 ∷ []
  written (mark l) = 2 ∷ (l ∷ [])
  written (page_of l) = 3 ∷ (l ∷ [])
  written (note ts) = 4 ∷ (all_written ts ++ (7 ∷ []))
  written (command k ts) = 5 ∷ (k ∷ (all_written ts ++ (7 ∷ [])))
  written given = 6 ∷ []

  pub all_written : Tokens → List ℕ
  all_written none = []
  all_written (more t ts) = written t ++ all_written ts
