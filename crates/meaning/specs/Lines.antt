-- Words, and the best lines for a paragraph. Assumes nothing: these are definitions.
use Rattle.std.specs.Prelude.{ℕ, zero, suc, ◌+◌, ◌-◌, ◌*◌, ◌/◌, ◌%◌, ◌<◌, ◌≤◌, Bool, true, false, List, [], ◌∷◌, ◌++◌, length, take, drop, ◌==◌, nat_le, nat_lt}
use Rattle.meaning.specs.Text.{pick, Atom, ch, gap, tag, foot}

-- a word, with the marks and notes that stand in it or right at it
pub record Word : Type 0 where
  pub letters : List ℕ
  pub tags : List ℕ
  pub feet : List (List ℕ)

abbrev pub nothing_yet : Word
nothing_yet = record { letters = []; tags = []; feet = [] }

unfoldable pub is_blank : Word → Bool
is_blank w = length w.letters + length w.tags + length w.feet == 0

unfoldable pub split : List Atom → Word → List Word
split [] w = pick (is_blank w) [] (w ∷ [])
split (gap ∷ xs) w = pick (is_blank w) (split xs nothing_yet) (w ∷ split xs nothing_yet)
split (ch c ∷ xs) w = split xs (record { letters = w.letters ++ (c ∷ []); tags = w.tags; feet = w.feet })
split (tag l ∷ xs) w = split xs (record { letters = w.letters; tags = w.tags ++ (l ∷ []); feet = w.feet })
split (foot f ∷ xs) w = split xs (record { letters = w.letters; tags = w.tags; feet = w.feet ++ (f ∷ []) })

-- how wide: by a table of letters; words stand at least a space apart
unfoldable pub long : (ℕ → ℕ) → List ℕ → ℕ
long wide [] = 0
long wide (c ∷ cs) = wide c + long wide cs

unfoldable pub natural : (ℕ → ℕ) → List Word → ℕ
natural wide [] = 0
natural wide (w ∷ []) = long wide w.letters
natural wide (w ∷ (v ∷ vs)) = long wide w.letters + wide 32 + natural wide (v ∷ vs)

-- what a line costs: the square of the room that is left, nothing on the last line; a line that sticks out, 10,000,000,000 and by how much
unfoldable pub line_cost : (ℕ → ℕ) → ℕ → List Word → Bool → ℕ
line_cost wide w l is_last =
    pick (nat_le (natural wide l) w) (pick is_last 0 ((w - natural wide l) * (w - natural wide l))) (10000000000 + (natural wide l - w))

-- a way to break: how many words each line has, together all of them, none without a word
unfoldable pub BreaksUp : List Word → List ℕ → Type 0
BreaksUp [] [] = ℕ
BreaksUp [] (k ∷ ks) = ⊥
BreaksUp (w ∷ ws) [] = ⊥
BreaksUp (w ∷ ws) (k ∷ ks) = (0 < k) × (k ≤ length (w ∷ ws)) × BreaksUp (drop k (w ∷ ws)) ks

unfoldable pub cost : (ℕ → ℕ) → ℕ → List Word → List ℕ → ℕ
cost wide w ws [] = 0
cost wide w ws (k ∷ []) = line_cost wide w (take k ws) true
cost wide w ws (k ∷ (j ∷ ks)) = line_cost wide w (take k ws) false + cost wide w (drop k ws) (j ∷ ks)

-- the best way: least cost, and of equally good ones the first line the longest, then the second, and so on
pub record Best : Type 0 where
  pub costs : ℕ
  pub ks : List ℕ

-- of a first line with k words or fewer, what is best, given what is best for the rest
unfoldable pub try : (ℕ → ℕ) → ℕ → List Word → (List Word → Best) → ℕ → Best
try wide w ws rest zero = record { costs = 0; ks = [] }
try wide w ws rest (suc zero) =
    let r : Best = rest (drop 1 ws) in
    record { costs = line_cost wide w (take 1 ws) (length ws == 1) + r.costs; ks = 1 ∷ r.ks }
try wide w ws rest (suc (suc k)) =
    let r : Best = rest (drop (suc (suc k)) ws) in
    let with : ℕ = line_cost wide w (take (suc (suc k)) ws) (length ws == suc (suc k)) + r.costs in
    let other : Best = try wide w ws rest (suc k) in
    pick (nat_le with other.costs) (record { costs = with; ks = suc (suc k) ∷ r.ks }) other

unfoldable pub best_in : ℕ → (ℕ → ℕ) → ℕ → List Word → Best
best_in zero wide w ws = record { costs = 0; ks = [] }
best_in (suc n) wide w [] = record { costs = 0; ks = [] }
best_in (suc n) wide w (x ∷ xs) = try wide w (x ∷ xs) (best_in n wide w) (length (x ∷ xs))

abbrev pub best : (ℕ → ℕ) → ℕ → List Word → Best
best wide w ws = best_in (suc (length ws)) wide w ws

-- a line set: letters with their places; the room is shared among the gaps, the first ones have one more; the last line is not stretched
pub record Placed : Type 0 where
  pub at : ℕ
  pub what : ℕ

unfoldable pub place_letters : (ℕ → ℕ) → ℕ → List ℕ → List Placed
place_letters wide x [] = []
place_letters wide x (c ∷ cs) = record { at = x; what = c } ∷ place_letters wide (x + wide c) cs

unfoldable pub place_words : (ℕ → ℕ) → ℕ → List Word → ℕ → ℕ → List Placed
place_words wide x [] each extra = []
place_words wide x (w ∷ ws) each extra =
    place_letters wide x w.letters ++ place_words wide (x + long wide w.letters + wide 32 + each + pick (nat_lt 0 extra) 1 0) ws each (extra - 1)

unfoldable pub set_line : (ℕ → ℕ) → ℕ → List Word → Bool → List Placed
set_line wide w l is_last =
    let room : ℕ = pick is_last 0 (w - natural wide l) in
    let gaps : ℕ = length l - 1 in
    pick (gaps == 0) (place_words wide 0 l 0 0) (place_words wide 0 l (room / gaps) (room % gaps))

pub record Line : Type 0 where
  pub letters : List Placed
  pub tags : List ℕ
  pub feet : List (List ℕ)

unfoldable pub tags_of : List Word → List ℕ
tags_of [] = []
tags_of (w ∷ ws) = w.tags ++ tags_of ws

unfoldable pub feet_of : List Word → List (List ℕ)
feet_of [] = []
feet_of (w ∷ ws) = w.feet ++ feet_of ws

unfoldable pub set_lines : (ℕ → ℕ) → ℕ → List Word → List ℕ → List Line
set_lines wide w ws [] = []
set_lines wide w ws (k ∷ ks) =
    record { letters = set_line wide w (take k ws) (length ws == k); tags = tags_of (take k ws); feet = feet_of (take k ws) } ∷ set_lines wide w (drop k ws) ks

abbrev pub paragraph : (ℕ → ℕ) → ℕ → List Atom → List Line
paragraph wide w xs = set_lines wide w (split xs nothing_yet) (best wide w (split xs nothing_yet)).ks
