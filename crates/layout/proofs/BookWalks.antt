-- A walk over the book, paragraph after paragraph, that seeks lines of a page.
use Rattle.std.proofs.Common.{◌≡◌, ℕ, ◌+◌, ◌-◌, ◌*◌, ◌≤◌, true, false, ◌⊎◌, List, [], ◌∷◌, length, drop, sym, refl, ap, ◌∙◌, subst, inl, inr, arith}
use Rattle.std.proofs.lemmas.List.{length-map, drop_at, drop-drop}
use Rattle.meaning.specs.Lines.{Line}
use Rattle.meaning.specs.Pages.{Looks}
use Rattle.store.specs.Paragraphs.{paragraphs_left}
use Rattle.store.specs.declared.paragraphs.Paragraphs.{Paragraphs}
use Rattle.layout.specs.Walks.{nothing_walked, begun, searched, Small, Grown}
use Rattle.layout.specs.Fills.{heights}
use Rattle.layout.specs.Sheets.{looks_of, paragraph_lines}
use Rattle.layout.specs.Books.{lines_in}
use Rattle.layout.specs.Found.{Stands, FoundBy}
use Rattle.layout.specs.declared.sheet.Sheet.{Sheet}
use Rattle.layout.specs.declared.search.Goal.{Goal}
use Rattle.layout.specs.declared.search.Search.{Search}
use Rattle.layout.specs.declared.book.Place.{Place}
use Rattle.layout.proofs.Searching.{searched_append, searched_done}
use Rattle.layout.proofs.BookLines.{heights_append}
use Rattle.layout.proofs.Seen.{seen, Turns, MovesAll, moves_all}

module _ (s : Sheet) (all : List (List ℕ)) (goal : Goal) where
  abbrev looks : Looks
  looks = looks_of s

  abbrev over_lines : List Line → Search → Search
  over_lines ls t = searched s.looks.rows (heights looks ls) t

  -- before the paragraphs ps, which are the last ones
  pub record SoFar (ps : List (List ℕ)) (t : Search) (from : Place) : Type 0 where
    pub last : length ps ≤ length all
    pub goal_is : t.goal ≡ goal
    pub goes_on : over_lines (lines_in s ps) t ≡ over_lines (lines_in s all) (begun goal)
    pub stands : Stands s (lines_in s all) from
    pub near : t.walk.pages ≡ goal.page + 1 → from.lines ≤ t.walk.before
    pub under : from.lines ≤ seen t.walk
    pub grown : Grown (4096 * (length all - length ps)) nothing_walked t.walk
    pub rows : t.walk.rows ≤ 1099511627776
    pub all_seen : t.done ≡ false → drop (seen t.walk) (lines_in s all) ≡ lines_in s ps

  pub nothing_so_far : (start : Paragraphs) → paragraphs_left start ≡ all → SoFar (paragraphs_left start) (begun goal) (record { paragraphs = start; lines = 0 })
  nothing_so_far start e =
      rw e (record {
        last = omega arith;
        goal_is = refl;
        goes_on = refl;
        stands = record { lines = ap (lines_in s) (sym e) };
        near = λ p. omega arith;
        under = omega arith;
        grown = record { pages = omega arith; seen = omega arith };
        rows = omega arith;
        all_seen = λ _. refl;
      })

  pub small : (ps : List (List ℕ)) (t : Search) (from : Place) → SoFar ps t from → length all ≤ 4096 → Small t.walk
  small ps t from h few =
      let g = h.grown in
      let a = g.pages in
      let b = g.seen in
      record { pages = omega arith; seen = omega arith; rows = h.rows }

  -- the place moves to where the walk is, as long as the page has not begun
  pub placed :
      (behind : Paragraphs) (t : Search) (from next : Place) → SoFar (paragraphs_left behind) t from → t.done ≡ false →
      ((t.walk.pages ≤ goal.page) × (next ≡ record { paragraphs = behind; lines = t.walk.before + t.walk.lines })) ⊎ (next ≡ from) → SoFar (paragraphs_left behind) t next
  placed behind t from next h on (inl (none, e)) =
      subst (SoFar (paragraphs_left behind) t) (sym e) (record {
        last = h.last;
        goal_is = h.goal_is;
        goes_on = h.goes_on;
        stands = record { lines = h.all_seen on };
        near = λ p. absurd (omega arith);
        under = omega arith;
        grown = h.grown;
        rows = h.rows;
        all_seen = h.all_seen;
      })
  placed behind t from next h on (inr e) = subst (SoFar (paragraphs_left behind) t) (sym e) h

  module _ (p : List ℕ) (ps whole : List (List ℕ)) (t u : Search) (from : Place) (all_of : whole ≡ p ∷ ps) (so_far : SoFar whole t from) (on : t.done ≡ false)
      (walks : u ≡ searched s.looks.rows (heights (looks_of s) (paragraph_lines s p)) t) (grows : Grown 4096 t.walk u.walk) (rows : u.walk.rows ≤ 1099511627776)
    where
      before : SoFar (p ∷ ps) t from
      before = subst (λ (xs : List (List ℕ)). SoFar xs t from) all_of so_far

      moved : MovesAll (length (heights looks (paragraph_lines s p))) t u
      moved = subst (MovesAll (length (heights looks (paragraph_lines s p))) t) (sym walks) (moves_all s.looks.rows (heights looks (paragraph_lines s p)) t)

      next_on : over_lines (lines_in s ps) u ≡ over_lines (lines_in s (p ∷ ps)) t
      next_on =
          ap (over_lines (lines_in s ps)) walks
          ∙ sym (ap (λ (hs : List ℕ). searched s.looks.rows hs t) (heights_append looks (paragraph_lines s p) (lines_in s ps))
          ∙ searched_append s.looks.rows (heights looks (paragraph_lines s p)) (heights looks (lines_in s ps)) t)

      seen_there : u.done ≡ false → drop (seen u.walk) (lines_in s all) ≡ lines_in s ps
      seen_there e =
          let n : ℕ = length (paragraph_lines s p) in
          let count : seen u.walk ≡ seen t.walk + n = (moved.on e).1 ∙ ap (λ m. seen t.walk + m) (length-map (paragraph_lines s p) _) in
          ap (λ m. drop m (lines_in s all)) count
          ∙ (sym (drop-drop n (seen t.walk) (lines_in s all)) ∙ (ap (drop n) (before.all_seen on) ∙ drop_at (paragraph_lines s p) (lines_in s ps) n refl))

      near_after : Turns t.walk u.walk → u.walk.pages ≡ goal.page + 1 → from.lines ≤ u.walk.before
      near_after (inl (a, b)) e = omega (arith, b, before.near (sym a ∙ e))
      near_after (inr l) e = omega (arith, before.under)

      pub one_more : SoFar ps u from
      one_more =
          let g = before.grown in
          let a = g.pages in
          let b = g.seen in
          let a' = grows.pages in
          let b' = grows.seen in
          let last = before.last in
          record {
            last = omega arith;
            goal_is = moved.goal ∙ before.goal_is;
            goes_on = next_on ∙ before.goes_on;
            stands = before.stands;
            near = near_after moved.turns;
            under = omega (arith, before.under, moved.no_less);
            grown = record { pages = omega arith; seen = omega arith };
            rows = rows;
            all_seen = seen_there;
          }

  -- where the walk ends
  module _ (ps : List (List ℕ)) (t : Search) (from : Place) (h : SoFar ps t from) (few : length all ≤ 4096) where
    found : t ≡ over_lines (lines_in s all) (begun goal) → FoundBy s (lines_in s all) goal (record { walk = t.walk; from = from })
    found e = record { walk = ap (λ (u : Search). u.walk) e; from = h.stands; near = h.near; small = small ps t from h few }

    pub found_done : t.done ≡ true → FoundBy s (lines_in s all) goal (record { walk = t.walk; from = from })
    found_done r = found (sym (searched_done s.looks.rows (heights looks (lines_in s ps)) t r) ∙ h.goes_on)

    pub found_at_end : ps ≡ [] → FoundBy s (lines_in s all) goal (record { walk = t.walk; from = from })
    unfolding searched
    found_at_end e = found (sym (ap (λ (rs : List (List ℕ)). over_lines (lines_in s rs) t) e) ∙ h.goes_on)
