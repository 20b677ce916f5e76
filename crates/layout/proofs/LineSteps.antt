-- The lines of a paragraph that was broken, as its slots give them.
use Rattle.std.proofs.Common.{◌≡◌, ℕ, zero, suc, ◌+◌, ◌-◌, ◌/◌, ◌<◌, ◌≤◌, eqb, Bool, true, List, [], ◌∷◌, map, length, take, drop, sym, refl, ap, ◌∙◌, subst, ap₂, inl, inr, arith}
use Rattle.std.specs.List.{AllByRecursion as All}
use Rattle.std.specs.declared.ops.Range.{Range}
use Rattle.std.proofs.lemmas.List.{length-drop, length-map, drop-drop}
use Rattle.std.proofs.lemmas.Bool.{cases_lt}
use Rattle.std.proofs.lemmas.Bool.Decides.{nat_tests}
use Rattle.meaning.specs.Lines.{Word, Placed, best, set_line, set_lines}
use Rattle.meaning.specs.Calls.{letters_of}
use Rattle.meaning.proofs.Picks.{pick_both}
use Rattle.words.specs.Atoms.{decoded, word_of}
use Rattle.words.specs.Slots.{word_in, part_of, words_from, wide_by}
use Rattle.linebreak.specs.Slots.{words_at}
use Rattle.linebreak.specs.Lines.{places, begins_line, lines_from, lines_of}
use Rattle.linebreak.proofs.Leading.{leads, lines_few}
use Rattle.layout.specs.Rows.{words_of, letters_in}
use Rattle.layout.specs.Sheets.{lines_by, InLines}
use Rattle.layout.specs.declared.sheet.Sheet.{Sheet}
use Rattle.layout.proofs.Cuts.{length_letters}

-- words of slots, of which some are left out
pub drop_words : (row slots : List ℕ) (first n k : ℕ) → k ≤ n → drop k (words_from row slots first n) ≡ words_from row slots (first + k) (n - k)
unfolding words_from
drop_words row slots first n zero l = ap₂ (λ f m. words_from row slots f m) (omega arith) (omega arith)
drop_words row slots first zero (suc k) l = absurd (omega arith)
drop_words row slots first (suc n) (suc k) l =
    drop_words row slots (first + 1) n k (omega arith) ∙ ap₂ (λ f m. words_from row slots f m) (omega arith) (omega arith)

pub take_words : (row slots : List ℕ) (first n k : ℕ) → k ≤ n → take k (words_from row slots first n) ≡ words_from row slots first k
unfolding words_from
take_words row slots first n zero l = refl
take_words row slots first zero (suc k) l = absurd (omega arith)
take_words row slots first (suc n) (suc k) l =
    ap (λ (ws : List Word). word_of (decoded (part_of row (word_in slots first))) ∷ ws) (take_words row slots (first + 1) n k (omega arith))

letters_drop : (k : ℕ) (ws : List Word) → letters_in (drop k ws) ≤ letters_in ws
unfolding letters_in
letters_drop zero ws = omega arith
letters_drop (suc k) [] = omega arith
letters_drop (suc k) (w ∷ ws) = omega (arith, letters_drop k ws)

letters_take : (k : ℕ) (ws : List Word) → letters_in (take k ws) ≤ letters_in ws
unfolding letters_in
letters_take zero ws = omega arith
letters_take (suc k) [] = omega arith
letters_take (suc k) (w ∷ ws) = omega (arith, letters_take k ws)

-- whatever the slots say, a line has a word, and its words are at places of the slots
begins : (xs : List ℕ) (k : ℕ) → begins_line xs k ≡ true → (k < k + words_at xs k) × (k + words_at xs k ≤ length xs / 8)
begins xs k e = grind (arith, nat_tests)

some_within : (steps : ℕ) (xs : List ℕ) (k : ℕ) → All (λ (line : Range ℕ). (line.start < line.end) × (line.end ≤ length xs / 8)) (lines_from steps xs k)
unfolding lines_from
some_within zero xs k = tt
some_within (suc steps) xs k =
    pick_both (begins_line xs k) (record { start = k; end = k + words_at xs k } ∷ lines_from steps xs (k + words_at xs k)) []
    (All (λ (line : Range ℕ). (line.start < line.end) × (line.end ≤ length xs / 8)))
    (λ e. (begins xs k e, some_within steps xs (k + words_at xs k)))
    (λ _. tt)

module _ (s : Sheet) (row slots : List ℕ) (b : InLines s (words_of row slots) row slots) where
  abbrev ws : List Word
  ws = words_of row slots

  abbrev n : ℕ
  n = length slots / 8

  pub how_many : n ≡ length ws
  how_many = omega (arith, b.as_many)

  pub words_there : (k j : ℕ) → k + j ≤ n → take j (drop k ws) ≡ words_from row slots k j
  words_there k j l =
      ap (take j) (drop_words row slots 0 n k (omega arith)) ∙ take_words row slots (0 + k) (n - k) j (omega arith)
      ∙ ap (λ f. words_from row slots f j) (omega arith)

  -- a line of these words has no more letters than they all
  pub letters_there : (k end : ℕ) → end ≤ n → letters_in (words_from row slots k (end - k)) ≤ 4096
  unfolding words_from letters_in
  letters_there k end l =
      elim (cases_lt k end) [
        | inl h ↦
            omega (
              arith,
              ap letters_in (words_there k (end - k) (omega arith)),
              letters_take (end - k) (drop k ws),
              letters_drop k ws,
              b.letters,
            )
        | inr h ↦ let none : end - k ≡ 0 = omega arith in omega (arith, ap (λ m. letters_in (words_from row slots k m)) none)
      ]

  -- the row of a line
  abbrev pub row_of : Range ℕ → List Placed
  row_of line = set_line (wide_by s.looks.widths) s.looks.width (words_from row slots line.start (line.end - line.start)) (eqb line.end n)

  -- the last line ends with the last word
  pub last_line : (k j : ℕ) → k + j ≤ n → eqb (length (drop k ws)) j ≡ eqb (k + j) n
  last_line k j l =
      ap (λ m. eqb m j) (length-drop k ws ∙ ap (λ m. m - k) (sym how_many)) ∙ grind (arith, nat_tests)

  rows_placed :
      (k : ℕ) (sizes : List ℕ) → All (λ (line : Range ℕ). (line.start < line.end) × (line.end ≤ n)) (places k sizes) →
      letters_of (set_lines (wide_by s.looks.widths) s.looks.width (drop k ws) sizes) ≡ map row_of (places k sizes)
  unfolding places set_lines letters_of
  rows_placed k [] h = refl
  rows_placed k (size ∷ sizes) h =
      let here : size ≡ k + size - k = omega arith in
      ap₂ (λ (x : List Placed) (xs : List (List Placed)). x ∷ xs)
      (ap₂ (λ (vs : List Word) (t : Bool). set_line (wide_by s.looks.widths) s.looks.width vs t) (words_there k size h.0.1 ∙ ap (words_from row slots k) here) (last_line k size h.0.1))
      (ap (λ (vs : List Word). letters_of (set_lines (wide_by s.looks.widths) s.looks.width vs sizes)) (drop-drop size k ws) ∙ rows_placed (k + size) sizes h.1)

  pub lines_are : lines_of slots ≡ places 0 (best (wide_by s.looks.widths) s.looks.width ws).ks
  lines_are = (leads (wide_by s.looks.widths) s.looks.width ws slots (length ws) b.as_many b.follows).lines

  pub all_within : All (λ (line : Range ℕ). (line.start < line.end) × (line.end ≤ n)) (lines_of slots)
  all_within = some_within n slots 0

  -- the lines of the slots are those of the paragraph
  pub rows_are : letters_of (lines_by s ws) ≡ map row_of (lines_of slots)
  rows_are =
      rows_placed 0 (best (wide_by s.looks.widths) s.looks.width ws).ks (subst (All (λ (line : Range ℕ). (line.start < line.end) × (line.end ≤ n))) lines_are all_within)
      ∙ ap (map row_of) (sym lines_are)

  pub as_many_lines : length (lines_by s ws) ≡ length (lines_of slots)
  as_many_lines = sym (length_letters (lines_by s ws)) ∙ ap length rows_are ∙ length-map (lines_of slots) row_of

  pub no_more_lines : length (lines_of slots) ≤ length ws
  no_more_lines = omega (arith, lines_few n slots 0, how_many)
