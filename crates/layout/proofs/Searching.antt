-- A walk that seeks lines of a page: what it tells of that page when it ends.
use Rattle.std.proofs.Common.{◌≡◌, ℕ, suc, ◌+◌, ◌<◌, ◌≤◌, Bool, true, false, ltb, leb, List, [], ◌∷◌, ◌++◌, length, get_or, take, sym, refl, ap, ◌∙◌, subst, inl, inr, arith}
use Rattle.std.proofs.lemmas.List.{append-nil, append_assoc, length-append, get_or_at, take_at}
use Rattle.std.proofs.lemmas.Bool.{ltb-true, leb-true, le-ltb, lt-ltb, and_parts, cases_lt}
use Rattle.meaning.specs.Lines.{Line}
use Rattle.meaning.specs.Pages.{Looks, Page, fill}
use Rattle.meaning.specs.Calls.{no_page}
use Rattle.meaning.specs.Promise.{lines_of}
use Rattle.meaning.proofs.Picks.{pick_true, pick_false}
use Rattle.meaning.proofs.Fills.{height, shut, done_by, page_with, by_turns, alone, with_line, fill_nil, fill_cons, lines_with, shut_some}
use Rattle.meaning.proofs.Counts.{heights}
use Rattle.layout.specs.Walks.{nothing_walked, stepped, goes_past, has_lines, begun, moved_on, found_line, searched}
use Rattle.layout.specs.declared.walk.Walk.{Walk}
use Rattle.layout.specs.declared.search.Goal.{Goal}
use Rattle.layout.specs.declared.search.Search.{Search}
use Rattle.layout.proofs.Walking.{walk_of, stepped_line, GoesOn, goes_on}

pub found_done : (rows h : ℕ) (s : Search) → s.done ≡ true → found_line rows s h ≡ s
found_done rows h s e = pick_true s.done s _ e

pub found_on : (rows h : ℕ) (s : Search) → s.done ≡ false → found_line rows s h ≡ moved_on s (stepped rows s.walk h)
found_on rows h s e = pick_false s.done s _ e

pub searched_done : (rows : ℕ) (hs : List ℕ) (s : Search) → s.done ≡ true → searched rows hs s ≡ s
unfolding searched
searched_done rows [] s e = refl
searched_done rows (h ∷ hs) s e = ap (searched rows hs) (found_done rows h s e) ∙ searched_done rows hs s e

pub searched_append : (rows : ℕ) (hs ks : List ℕ) (s : Search) → searched rows (hs ++ ks) s ≡ searched rows ks (searched rows hs s)
unfolding searched
searched_append rows [] ks s = refl
searched_append rows (h ∷ hs) ks s = searched_append rows hs ks (found_line rows s h)

-- what the walk w, at its end, tells of these pages
pub record SearchAmong (ps : List Page) (goal : Goal) (w : Walk) : Type 0 where
  pub none : w.pages ≤ goal.page → length ps ≡ w.pages
  pub near : w.pages ≤ goal.page + 1
  pub there : w.pages ≡ goal.page + 1 → goal.page < length ps
  pub start : w.pages ≡ goal.page + 1 → w.before ≡ length (lines_of (take goal.page ps))
  pub part : w.pages ≡ goal.page + 1 → w.lines ≤ length (get_or ps goal.page no_page).lines
  pub rows : w.lines ≤ w.rows
  pub exact :
      w.pages ≡ goal.page + 1 → w.lines < goal.lines →
      (w.lines ≡ length (get_or ps goal.page no_page).lines) × (w.rows ≡ length (get_or ps goal.page no_page).lines + length (get_or ps goal.page no_page).notes)

module _ (goal : Goal) (done : List Page) (p : Page) (some : 0 < length p.lines) where
  count : (walk_of done p).pages ≡ length done + 1
  count = ap (λ (ps : List Page). length done + length ps) (shut_some p some)

  -- the open page is whole, and where it is no page that is asked for it is the last one
  ended_whole : (qs : List Page) → length done ≤ goal.page → (length done < goal.page → qs ≡ []) → SearchAmong (done ++ (p ∷ qs)) goal (walk_of done p)
  ended_whole qs few last =
      let lens : length (done ++ (p ∷ qs)) ≡ length done + suc (length qs) = length-append done (p ∷ qs) in
      let here : length done ≡ goal.page → get_or (done ++ (p ∷ qs)) goal.page no_page ≡ p = λ e. get_or_at done p qs no_page goal.page e in
      record {
        none = λ l. let e : length qs ≡ 0 = ap length (last (omega (arith, count))) in omega (arith, lens, count);
        near = omega (arith, count);
        there = λ e. omega (arith, lens, count);
        start = λ e. sym (ap (λ (ps : List Page). length (lines_of ps)) (take_at done (p ∷ qs) goal.page (omega (arith, count))));
        part = λ e. omega (arith, ap (λ (q : Page). length q.lines) (here (omega (arith, count))));
        rows = omega arith;
        exact = λ e l. let is = here (omega (arith, count)) in (ap (λ (q : Page). length q.lines) (sym is), ap (λ (q : Page). length q.lines + length q.notes) (sym is));
      }

  -- it is the page that is asked for, and has enough lines, whatever others come
  ended_part : (qs : List Page) → length done ≡ goal.page → GoesOn p qs → goal.lines ≤ length p.lines → SearchAmong (done ++ qs) goal (walk_of done p)
  ended_part qs is on enough =
      let whole : Page = record { lines = p.lines ++ on.others; notes = on.feet } in
      let here : get_or (done ++ qs) goal.page no_page ≡ whole = ap (λ (ps : List Page). get_or (done ++ ps) goal.page no_page) on.is ∙ get_or_at done whole on.behind no_page goal.page is in
      let lens : length (done ++ qs) ≡ length done + suc (length on.behind) = ap (λ (ps : List Page). length (done ++ ps)) on.is ∙ length-append done (whole ∷ on.behind) in
      record {
        none = λ l. absurd (omega (arith, count));
        near = omega (arith, count);
        there = λ e. omega (arith, lens);
        start = λ e. sym (ap (λ (ps : List Page). length (lines_of ps)) (take_at done qs goal.page is));
        part = λ e. omega (arith, ap (λ (q : Page). length q.lines) here, length-append p.lines on.others);
        rows = omega arith;
        exact = λ e l. absurd (omega arith);
      }

  -- a walk that came onto it
  moves_on :
      (g : Looks) (ls : List Line) (w : Walk) → length done ≤ goal.page →
      SearchAmong (done ++ fill g ls p.lines p.notes) goal (searched g.rows (heights g ls) (record { goal = goal; walk = walk_of done p; done = false })).walk →
      SearchAmong (done ++ fill g ls p.lines p.notes) goal (searched g.rows (heights g ls) (moved_on (record { goal = goal; walk = w; done = false }) (walk_of done p))).walk
  moves_on g ls w few later =
      let not_past : goes_past goal (walk_of done p) ≡ false = le-ltb (goal.page + 1) (walk_of done p).pages (omega (arith, count)) in
      let moved : moved_on (record { goal = goal; walk = w; done = false }) (walk_of done p) ≡ record { goal = goal; walk = walk_of done p; done = has_lines goal (walk_of done p) } = pick_false (goes_past goal (walk_of done p)) _ _ not_past in
      subst (λ (s : Search). SearchAmong (done ++ fill g ls p.lines p.notes) goal (searched g.rows (heights g ls) s).walk) (sym moved) (go g ls later (has_lines goal (walk_of done p)) refl)
    where
      go :
          (g : Looks) (ls : List Line) → SearchAmong (done ++ fill g ls p.lines p.notes) goal (searched g.rows (heights g ls) (record { goal = goal; walk = walk_of done p; done = false })).walk →
          (b : Bool) → has_lines goal (walk_of done p) ≡ b →
          SearchAmong (done ++ fill g ls p.lines p.notes) goal (searched g.rows (heights g ls) (record { goal = goal; walk = walk_of done p; done = b })).walk
      go g ls later false e = later
      go g ls later true e =
          let both = and_parts (ltb goal.page (walk_of done p).pages) (leb goal.lines (length p.lines)) e in
          rw (searched_done g.rows (heights g ls) (record { goal = goal; walk = walk_of done p; done = true }) refl)
          (ended_part (fill g ls p.lines p.notes) (omega (arith, few, count, ltb-true goal.page (walk_of done p).pages both.0)) (goes_on g ls p some) (leb-true goal.lines (length p.lines) both.1))

-- a line that starts a new page, behind page p
turned :
    (g : Looks) (goal : Goal) (l : Line) (ls : List Line) (done : List Page) (p : Page) → 0 < length p.lines → length done ≤ goal.page →
    (length done < goal.page →
    SearchAmong ((done ++ (p ∷ [])) ++ fill g ls (alone g l).lines (alone g l).notes) goal (searched g.rows (heights g ls) (record { goal = goal; walk = walk_of (done ++ (p ∷ [])) (alone g l); done = false })).walk) →
    SearchAmong (done ++ (p ∷ fill g ls (alone g l).lines (alone g l).notes)) goal
    (searched g.rows (heights g ls) (moved_on (record { goal = goal; walk = walk_of done p; done = false }) (walk_of (done ++ (p ∷ [])) (alone g l)))).walk
turned g goal l ls done p some few later =
    let w : Walk = walk_of (done ++ (p ∷ [])) (alone g l) in
    let s : Search = record { goal = goal; walk = walk_of done p; done = false } in
    let long : length (done ++ (p ∷ [])) ≡ length done + 1 = length-append done (p ∷ []) in
    let pages : w.pages ≡ length done + 2 = ap (λ (ps : List Page). length (done ++ (p ∷ [])) + length ps) (shut_some (alone g l) (omega arith)) ∙ omega (arith, long) in
    elim (cases_lt (length done) goal.page) [
      | inl m ↦
          subst (λ (ps : List Page). SearchAmong ps goal (searched g.rows (heights g ls) (moved_on s w)).walk)
          (append_assoc done (p ∷ []) (fill g ls (alone g l).lines (alone g l).notes))
          (moves_on goal (done ++ (p ∷ [])) (alone g l) (omega arith) g ls (walk_of done p) (omega (arith, long)) (later m))
      | inr m ↦
          let past : goes_past goal w ≡ true = lt-ltb (goal.page + 1) w.pages (omega (arith, pages)) in
          let stays : moved_on s w ≡ record { goal = goal; walk = walk_of done p; done = true } = pick_true (goes_past goal w) _ _ past in
          subst (λ (t : Search). SearchAmong (done ++ (p ∷ fill g ls (alone g l).lines (alone g l).notes)) goal t.walk)
          (sym (ap (searched g.rows (heights g ls)) stays ∙ searched_done g.rows (heights g ls) (record { goal = goal; walk = walk_of done p; done = true }) refl))
          (ended_whole goal done p some (fill g ls (alone g l).lines (alone g l).notes) few (λ z. absurd (omega arith)))
    ]

search_from :
    (g : Looks) (goal : Goal) (ls : List Line) (done : List Page) (p : Page) → 0 < length p.lines → length done ≤ goal.page →
    SearchAmong (done ++ fill g ls p.lines p.notes) goal (searched g.rows (heights g ls) (record { goal = goal; walk = walk_of done p; done = false })).walk
unfolding searched
search_from g goal [] done p some few =
    subst (λ (ps : List Page). SearchAmong (done ++ ps) goal (walk_of done p)) (sym (fill_nil g p ∙ shut_some p some)) (ended_whole goal done p some [] few (λ _. refl))
search_from g goal (l ∷ ls) done p some few =
    let s : Search = record { goal = goal; walk = walk_of done p; done = false } in
    let ends : Walk → Walk = λ w. (searched g.rows (heights g ls) (moved_on s w)).walk in
    let room : 0 < length (with_line g p l).lines = omega (arith, length-append p.lines (l ∷ [])) in
    subst (λ (w : Walk). SearchAmong (done ++ fill g (l ∷ ls) p.lines p.notes) goal (ends w)) (sym (stepped_line g l done p))
    (subst (λ (ps : List Page). SearchAmong (done ++ ps) goal (ends (walk_of (done ++ done_by g p l) (page_with g p l)))) (sym (fill_cons g l ls p))
    (by_turns g p l (λ ps q. SearchAmong (done ++ (ps ++ fill g ls q.lines q.notes)) goal (ends (walk_of (done ++ ps) q)))
    (λ _.
    subst (λ (ps : List Page). SearchAmong (done ++ (ps ++ fill g ls (alone g l).lines (alone g l).notes)) goal (ends (walk_of (done ++ ps) (alone g l)))) (sym (shut_some p some))
    (turned g goal l ls done p some few (λ m. search_from g goal ls (done ++ (p ∷ [])) (alone g l) (omega arith) (omega (arith, length-append done (p ∷ []))))))
    (λ _.
    subst (λ (ps : List Page). SearchAmong (done ++ fill g ls (with_line g p l).lines (with_line g p l).notes) goal (ends (walk_of ps (with_line g p l)))) (sym (append-nil done))
    (moves_on goal done (with_line g p l) room g ls (walk_of done p) few (search_from g goal ls done (with_line g p l) room few)))))

none_done : (g : Looks) (l : Line) → length (done_by g no_page l) ≡ 0
unfolding shut
none_done g l = by_turns g no_page l (λ ps _. length ps ≡ 0) (λ _. refl) (λ _. refl)

nil_of : {X : Type 0} (xs : List X) → length xs ≡ 0 → xs ≡ []
nil_of [] e = refl
nil_of (x ∷ xs) e = absurd (omega arith)

pub search_is : (g : Looks) (goal : Goal) (ls : List Line) → SearchAmong (fill g ls [] []) goal (searched g.rows (heights g ls) (begun goal)).walk
unfolding searched fill shut lines_of
search_is g goal [] =
    record {
      none = λ _. refl;
      near = omega arith;
      there = λ e. absurd (omega arith);
      start = λ e. absurd (omega arith);
      part = λ e. absurd (omega arith);
      rows = omega arith;
      exact = λ e. absurd (omega arith);
    }
search_is g goal (l ∷ ls) =
    let first : done_by g no_page l ≡ [] = nil_of (done_by g no_page l) (none_done g l) in
    let p : Page = page_with g no_page l in
    let step : stepped g.rows nothing_walked (height g l) ≡ walk_of [] p = stepped_line g l [] no_page ∙ ap (λ (ps : List Page). walk_of ps p) first in
    let pages : fill g (l ∷ ls) [] [] ≡ fill g ls p.lines p.notes = fill_cons g l ls no_page ∙ ap (λ (ps : List Page). ps ++ fill g ls p.lines p.notes) first in
    subst (λ (w : Walk). SearchAmong (fill g (l ∷ ls) [] []) goal (searched g.rows (heights g ls) (moved_on (begun goal) w)).walk) (sym step)
    (subst (λ (ps : List Page). SearchAmong ps goal (searched g.rows (heights g ls) (moved_on (begun goal) (walk_of [] p))).walk) (sym pages)
    (moves_on goal [] p (lines_with g no_page l) g ls nothing_walked (omega arith) (search_from g goal ls [] p (lines_with g no_page l) (omega arith))))
