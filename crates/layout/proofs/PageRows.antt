-- The rows of a page, by what a walk that sought some of them tells: its lines, and then its notes' lines.
use Rattle.std.proofs.Common.{◌≡◌, ℕ, zero, suc, ◌+◌, ◌<◌, ◌≤◌, List, [], ◌∷◌, ◌++◌, length, get_or, take, drop, sym, refl, ap, ap₂, ◌∙◌, inl, inr, arith}
use Rattle.std.proofs.lemmas.List.{length-append, length-take-le, take_all, take-take}
use Rattle.std.proofs.lemmas.Bool.{cases_lt}
use Rattle.std.proofs.ByRecursion.{All-get_or}
use Rattle.meaning.specs.Lines.{Placed, Line}
use Rattle.meaning.specs.Pages.{Looks, Page, fill}
use Rattle.meaning.specs.Calls.{no_page, letters_of, page_rows}
use Rattle.meaning.specs.Promise.{notes_of}
use Rattle.meaning.proofs.Fills.{WellMade, fill_well_made}
use Rattle.layout.specs.declared.walk.Walk.{Walk}
use Rattle.layout.specs.declared.search.Goal.{Goal}
use Rattle.layout.proofs.Walking.{walk_fills}
use Rattle.layout.proofs.Searching.{SearchAmong}
use Rattle.layout.proofs.Cuts.{length_letters, take_letters, take_of_part}

-- of two rows one behind the other, what is in the first
taken_before : {X : Type 0} (n : ℕ) (xs ys : List X) → n ≤ length xs → take n (xs ++ ys) ≡ take n xs
taken_before zero xs ys l = refl
taken_before (suc n) [] ys l = absurd (omega arith)
taken_before {X = X} (suc n) (x ∷ xs) ys l = ap (λ (zs : List X). x ∷ zs) (taken_before n xs ys (omega arith))

part_before : {X : Type 0} (n r : ℕ) (xs ys : List X) → r + n ≤ length xs → take n (drop r (xs ++ ys)) ≡ take n (drop r xs)
part_before n zero xs ys h = taken_before n xs ys (omega arith)
part_before n (suc r) [] ys h = absurd (omega arith)
part_before n (suc r) (x ∷ xs) ys h = part_before n r xs ys (omega arith)

module _ (g : Looks) (ls : List Line) (goal : Goal) (w : Walk) (tells : SearchAmong (fill g ls [] []) goal w) (on : w.pages ≡ goal.page + 1) where
  abbrev page : Page
  page = get_or (fill g ls [] []) goal.page no_page

  -- the lines of the page that the walk has seen
  abbrev pub lines_seen : List Line
  lines_seen = take w.lines (drop w.before ls)

  there : goal.page < length (fill g ls [] [])
  there = tells.there on

  lines_are : page.lines ≡ take (length page.lines) (drop w.before ls)
  lines_are = (walk_fills g ls).page_has goal.page there ∙ ap (λ (n : ℕ). take (length page.lines) (drop n ls)) (sym (tells.start on))

  notes_are : page.notes ≡ notes_of g page.lines
  unfolding notes_of
  notes_are = (All-get_or (WellMade g) (fill g ls [] []) goal.page no_page there (fill_well_made g ls no_page (refl, inl (omega arith)))).0

  rows_length : length (page_rows page) ≡ length page.lines + length page.notes
  rows_length = length-append (letters_of page.lines) (letters_of page.notes) ∙ ap₂ (λ (a b : ℕ). a + b) (length_letters page.lines) (length_letters page.notes)

  first_lines : lines_seen ≡ take w.lines page.lines
  first_lines = sym (ap (take w.lines) lines_are ∙ take-take w.lines (length page.lines) (drop w.before ls) (tells.part on))

  seen_length : length lines_seen ≡ w.lines
  seen_length = ap length first_lines ∙ length-take-le w.lines page.lines (tells.part on)

  pub whole_seen : w.lines < goal.lines → (w.lines ≡ length page.lines) × (w.rows ≡ length (page_rows page))
  whole_seen l = ((tells.exact on l).0, (tells.exact on l).1 ∙ sym rows_length)

  -- all rows that are asked for are there
  pub rows_enough : goal.lines ≤ w.rows → goal.lines ≤ length (page_rows page)
  rows_enough h =
      elim (cases_lt w.lines goal.lines) [
        | inl l ↦ omega (arith, (whole_seen l).1)
        | inr l ↦ omega (arith, rows_length, tells.part on)
      ]

  pub rows_short : w.rows < goal.lines → length (page_rows page) < goal.lines
  rows_short h = omega (arith, tells.rows, (whole_seen (omega (arith, tells.rows))).1)

  pub rows_seen : (r n : ℕ) → goal.lines ≡ r + n → take n (drop r (letters_of lines_seen ++ letters_of (notes_of g lines_seen))) ≡ take n (drop r (page_rows page))
  rows_seen r n e =
      elim (cases_lt w.lines goal.lines) [
        | inl l ↦
            let whole : lines_seen ≡ page.lines = first_lines ∙ ap (λ (m : ℕ). take m page.lines) (whole_seen l).0 ∙ take_all (length page.lines) page.lines (omega arith) in
            ap (λ (ms : List Line). take n (drop r (letters_of ms ++ letters_of (notes_of g ms)))) whole
            ∙ ap (λ (ms : List Line). take n (drop r (letters_of page.lines ++ letters_of ms))) (sym notes_are)
        | inr l ↦
            part_before n r (letters_of lines_seen) (letters_of (notes_of g lines_seen)) (omega (arith, length_letters lines_seen, seen_length))
            ∙ ap (λ (ms : List Line). take n (drop r (letters_of ms))) first_lines
            ∙ ap (λ (rs : List (List Placed)). take n (drop r rs)) (sym (take_letters w.lines page.lines))
            ∙ take_of_part n r w.lines (letters_of page.lines) (omega arith)
            ∙ sym (part_before n r (letters_of page.lines) (letters_of page.notes) (omega (arith, length_letters page.lines, tells.part on)))
      ]
