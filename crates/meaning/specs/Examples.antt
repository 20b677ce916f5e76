-- Small texts worked out: what their pages look like, and a paragraph on which filling one line after the other is not the best. Assumes nothing: these are
-- definitions, and a statement whose proof is owed.
use Rattle.std.specs.Prelude.{◌≡◌, ℕ, ◌<◌, true, ◌||◌, List, [], ◌∷◌, ◌++◌, length, codes, ◌==◌, nat_le}
use Prim.Native.String.{String}
use Rattle.meaning.specs.Text.{pick, letter, space, mark, page_of, note, Tokens, none, more, Definition, atoms}
use Rattle.meaning.specs.Lines.{Word, nothing_yet, split, natural, BreaksUp, cost, best, Placed, set_lines}
use Rattle.meaning.specs.Pages.{Looks, Page, book}
use Rattle.meaning.specs.Calls.{letters_of}

-- widths that are easily added up: a space 4, i and l 3, all others 6
abbrev pub easy : ℕ → ℕ
easy c = pick (c == 32) 4 (pick (c == 105 || c == 108) 3 6)

abbrev pub paper : ℕ → ℕ → Looks
paper across rows = record { wide = easy; across = across; rows = rows }

-- letters and spaces, and then other tokens
unfoldable pub lettered : List ℕ → Tokens → Tokens
lettered [] ts = ts
lettered (c ∷ cs) ts = more (pick (c == 32) space (letter c)) (lettered cs ts)

abbrev pub typed : String → Tokens → Tokens
typed s ts = lettered (codes s) ts

-- letters, each with its place
unfoldable pub placed : List ℕ → List ℕ → List Placed
placed [] xs = []
placed (c ∷ cs) [] = []
placed (c ∷ cs) (x ∷ xs) = record { at = x; what = c } ∷ placed cs xs

abbrev pub row : String → List ℕ → List Placed
row s xs = placed (codes s) xs

-- a page as it is seen: the rows of its lines and of its notes
pub record Seen : Type 0 where
  pub lines : List (List Placed)
  pub notes : List (List Placed)

unfoldable pub as_seen : List Page → List Seen
as_seen [] = []
as_seen (p ∷ ps) = record { lines = letters_of p.lines; notes = letters_of p.notes } ∷ as_seen ps

-- a text without definitions has these pages, and its page numbers are right
abbrev pub HasPages : Looks → List Tokens → List Seen → Type 0
HasPages g ps pages = (as_seen (book g [] ps).made ≡ pages) × ((book g [] ps).at_rest ≡ true)

-- line after line, each with as many words as fit: given the line so far
unfoldable pub filled : (ℕ → ℕ) → ℕ → List Word → List Word → List ℕ
filled wide w line [] = length line ∷ []
filled wide w line (x ∷ xs) =
    pick (nat_le (natural wide (line ++ (x ∷ []))) w) (filled wide w (line ++ (x ∷ [])) xs) (length line ∷ filled wide w (x ∷ []) xs)

unfoldable pub greedy : (ℕ → ℕ) → ℕ → List Word → List ℕ
greedy wide w [] = []
greedy wide w (x ∷ xs) = filled wide w (x ∷ []) xs

abbrev pub birds : Tokens
birds = typed "the sun is up and birds sing" none

abbrev pub birds_words : List Word
birds_words = split (atoms [] (λ l. 0) birds) nothing_yet

-- the best lines leave 20 and 13, the greedy ones 7 and 26; the last line costs nothing
pub record GreedyIsWorse : Type 0 where
  pub best_way : (best easy 60 birds_words).ks ≡ 2 ∷ 3 ∷ 2 ∷ []
  pub greedy_way : greedy easy 60 birds_words ≡ 3 ∷ 2 ∷ 2 ∷ []
  pub greedy_breaks : BreaksUp birds_words (greedy easy 60 birds_words)
  pub best_cost : cost easy 60 birds_words (best easy 60 birds_words).ks ≡ 569
  pub greedy_cost : cost easy 60 birds_words (greedy easy 60 birds_words) ≡ 725
  pub worse : cost easy 60 birds_words (best easy 60 birds_words).ks < cost easy 60 birds_words (greedy easy 60 birds_words)
  pub best_page :
      HasPages (paper 60 3) (birds ∷ [])
      (record {
        lines =
            row "thesun" (0 ∷ 6 ∷ 12 ∷ 42 ∷ 48 ∷ 54 ∷ []) ∷ row "isupand" (0 ∷ 3 ∷ 20 ∷ 26 ∷ 42 ∷ 48 ∷ 54 ∷ [])
            ∷ row "birdssing" (0 ∷ 6 ∷ 9 ∷ 15 ∷ 21 ∷ 31 ∷ 37 ∷ 40 ∷ 46 ∷ []) ∷ [];
        notes = [];
      } ∷ [])
  pub greedy_lines :
      letters_of (set_lines easy 60 birds_words (greedy easy 60 birds_words))
      ≡ row "thesunis" (0 ∷ 6 ∷ 12 ∷ 26 ∷ 32 ∷ 38 ∷ 51 ∷ 54 ∷ []) ∷ row "upand" (0 ∷ 6 ∷ 42 ∷ 48 ∷ 54 ∷ [])
      ∷ row "birdssing" (0 ∷ 6 ∷ 9 ∷ 15 ∷ 21 ∷ 31 ∷ 37 ∷ 40 ∷ 46 ∷ []) ∷ []

pub record Examples : Type 0 where
  -- nothing is written, whatever the looks
  pub empty_text : (g : Looks) (ds : List Definition) → book g ds [] ≡ record { at_rest = true; made = [] }
  -- the first line is stretched to the full width, the last one is not
  pub two_lines :
      HasPages (paper 30 3) (typed "ab cd ef" none ∷ [])
      (record { lines = row "abcd" (0 ∷ 6 ∷ 18 ∷ 24 ∷ []) ∷ row "ef" (0 ∷ 6 ∷ []) ∷ []; notes = [] } ∷ [])
  -- a note goes to the foot of the page
  pub with_note :
      HasPages (paper 40 2) (typed "a" (more (note (typed "x y" none)) (typed " b c" none)) ∷ [])
      (record { lines = row "abc" (0 ∷ 10 ∷ 20 ∷ []) ∷ []; notes = row "xy" (0 ∷ 10 ∷ []) ∷ [] } ∷ [])
  -- the number of a page: the place is on the first one, its number is set on the third
  pub with_number :
      HasPages (paper 30 1) (typed "ab " (more (mark 1) (typed "cd ef" none)) ∷ (typed "p" (more (page_of 1) none) ∷ []))
      (record { lines = row "abcd" (0 ∷ 6 ∷ 18 ∷ 24 ∷ []) ∷ []; notes = [] } ∷ record { lines = row "ef" (0 ∷ 6 ∷ []) ∷ []; notes = [] }
      ∷ record { lines = row "p1" (0 ∷ 6 ∷ []) ∷ []; notes = [] } ∷ [])
  pub not_greedy : GreedyIsWorse
