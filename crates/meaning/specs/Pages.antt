-- Pages: lines, and their notes at the foot; and page numbers that are right. Assumes nothing: these are definitions.
use Rattle.std.specs.Prelude.{ℕ, zero, suc, ◌+◌, Bool, true, false, ◌&&◌, ◌||◌, List, [], ◌∷◌, ◌++◌, length, ◌==◌, nat_le}
use Rattle.meaning.specs.Text.{pick, Tokens, Atom, ch, gap, Definition, atoms}
use Rattle.meaning.specs.Lines.{Line, paragraph}

-- how a book looks: letters, the width, and how many rows a page has
pub record Looks : Type 0 where
  pub wide : ℕ → ℕ
  pub across : ℕ
  pub rows : ℕ

unfoldable pub spaced : List ℕ → List Atom
spaced [] = []
spaced (c ∷ cs) = pick (c == 32) gap (ch c) ∷ spaced cs

-- a note set as a paragraph of its own
abbrev pub foot_lines : Looks → List ℕ → List Line
foot_lines g f = paragraph g.wide g.across (spaced f)

unfoldable pub all_feet : Looks → List (List ℕ) → List Line
all_feet g [] = []
all_feet g (f ∷ fs) = foot_lines g f ++ all_feet g fs

-- a row of a page is a line of the text, or of a note
pub record Page : Type 0 where
  pub lines : List Line
  pub notes : List Line

-- a page takes lines as long as they fit with their notes; a first one always goes
unfoldable pub fill : Looks → List Line → List Line → List Line → List Page
fill g [] [] ns = []
fill g [] (a ∷ rs) ns = record { lines = a ∷ rs; notes = ns } ∷ []
fill g (l ∷ ls) [] ns = fill g ls (l ∷ []) (all_feet g l.feet)
fill g (l ∷ ls) (a ∷ rs) ns =
    pick (nat_le (suc (length (a ∷ rs)) + (length ns + length (all_feet g l.feet))) g.rows)
    (fill g ls ((a ∷ rs) ++ (l ∷ [])) (ns ++ all_feet g l.feet))
    (record { lines = a ∷ rs; notes = ns } ∷ fill g ls (l ∷ []) (all_feet g l.feet))

unfoldable pub all_lines : Looks → List Definition → (ℕ → ℕ) → List Tokens → List Line
all_lines g ds pg [] = []
all_lines g ds pg (p ∷ ps) = paragraph g.wide g.across (atoms ds pg p) ++ all_lines g ds pg ps

abbrev pub pages : Looks → List Definition → (ℕ → ℕ) → List Tokens → List Page
pages g ds pg ps = fill g (all_lines g ds pg ps) [] []

-- on which page a place is, from 1 on; the first of its name; 0 is none
unfoldable pub among : ℕ → List ℕ → Bool
among l [] = false
among l (k ∷ ks) = l == k || among l ks

unfoldable pub tagged : ℕ → List Line → Bool
tagged l [] = false
tagged l (x ∷ xs) = among l x.tags || tagged l xs

unfoldable pub page_of : ℕ → List Page → ℕ → ℕ
page_of l [] n = 0
page_of l (p ∷ ps) n = pick (tagged l p.lines) n (page_of l ps (suc n))

-- are two ways to number places the same, for all names below k
unfoldable pub agree : (ℕ → ℕ) → (ℕ → ℕ) → ℕ → Bool
agree f h zero = true
agree f h (suc k) = f k == h k && agree f h k

-- page numbers are put in, and the pages made anew, until they are the ones put in
pub record Book : Type 0 where
  pub at_rest : Bool
  pub made : List Page

unfoldable pub settle : ℕ → Looks → List Definition → List Tokens → (ℕ → ℕ) → Book
settle zero g ds ps pg = record { at_rest = false; made = pages g ds pg ps }
settle (suc k) g ds ps pg =
    let made : List Page = pages g ds pg ps in
    let found : ℕ → ℕ = λ l. page_of l made 1 in
    pick (agree pg found 256) (record { at_rest = true; made = made }) (settle k g ds ps found)

abbrev pub book : Looks → List Definition → List Tokens → Book
book g ds ps = settle 8 g ds ps (λ l. 0)
