-- The walk runs along with the pages that lines fill.
use Rattle.std.proofs.Common.{◌≡◌, ℕ, ◌+◌, ◌-◌, ◌<◌, List, [], ◌∷◌, ◌++◌, length, get_or, take, drop, sym, refl, ap, ◌∙◌, arith}
use Rattle.std.proofs.lemmas.List.{append-nil, append_assoc, length-append, length-take-le, get_or_append_left, get_or-append_right, get_or-take, get_or_at, take-append-drop, take_at, take-map, drop_at, drop_more}
use Rattle.meaning.specs.Text.{pick}
use Rattle.meaning.specs.Lines.{Line}
use Rattle.meaning.specs.Pages.{Looks, Page, fill}
use Rattle.meaning.specs.Calls.{no_page}
use Rattle.meaning.specs.Promise.{lines_of}
use Rattle.meaning.proofs.Picks.{pick_true, pick_false}
use Rattle.meaning.proofs.Fills.{height, shut, turns, alone, with_line, done_by, page_with, by_turns, done_pages, open_page, fill_nil, fill_cons, fill_append, fill_all, lines_of_append, lines_of_shut, lines_of_done_pages, lines_of_fill, lines_open, lines_before, shut_some}
use Rattle.meaning.proofs.Counts.{heights}
use Rattle.layout.specs.Walks.{nothing_walked, stepped, walked}
use Rattle.layout.specs.Fills.{walk_at, WalkFills}
use Rattle.layout.specs.declared.walk.Walk.{Walk}

-- where the walk is when these pages are done with and page p is open
abbrev pub walk_of : List Page → Page → Walk
walk_of done p = record { pages = length done + length (shut p); before = length (lines_of done); lines = length p.lines; rows = length p.lines + length p.notes }

pub same_walk :
    (a b c d e f h k : ℕ) → a ≡ b → c ≡ d → e ≡ f → h ≡ k →
    ◌≡◌ {A = Walk} (record { pages = a; before = c; lines = e; rows = h }) (record { pages = b; before = d; lines = f; rows = k })
same_walk a b c d e f h k p q r s = λ i. record { pages = p i; before = q i; lines = r i; rows = s i }

pub stepped_line : (g : Looks) (l : Line) (done : List Page) (p : Page) → stepped g.rows (walk_of done p) (height g l) ≡ walk_of (done ++ done_by g p l) (page_with g p l)
unfolding turns
stepped_line g l done p =
    let w : Walk = walk_of done p in
    let new : Walk = record { pages = w.pages + 1; before = w.before + w.lines; lines = 1; rows = height g l } in
    let same : Walk = record { pages = w.pages; before = w.before; lines = w.lines + 1; rows = w.rows + height g l } in
    by_turns g p l (λ ps q. pick (turns g p l) new same ≡ walk_of (done ++ ps) q)
    (λ e. pick_true (turns g p l) new same e
    ∙ same_walk _ _ _ _ _ _ _ _ (rw (shut_some (alone g l) (omega arith), length-append) (omega arith)) (rw (lines_of_append, lines_of_shut, length-append) refl) refl (omega arith))
    (λ e. pick_false (turns g p l) new same e
    ∙ same_walk _ _ _ _ _ _ _ _ (rw (append-nil, shut_some p (lines_before g p l e), shut_some (with_line g p l) (simp length-append (omega arith))) refl) (rw append-nil refl)
    (simp length-append (omega arith)) (simp length-append (omega arith)))

pub walked_is : (g : Looks) (ls : List Line) (done : List Page) (p : Page) → walked g.rows (heights g ls) (walk_of done p) ≡ walk_of (done ++ done_pages g ls p) (open_page g ls p)
unfolding walked done_pages open_page
walked_is g [] done p = rw append-nil refl
walked_is g (l ∷ ls) done p =
    ap (walked g.rows (heights g ls)) (stepped_line g l done p) ∙ walked_is g ls (done ++ done_by g p l) (page_with g p l)
    ∙ ap (λ (ps : List Page). walk_of ps (open_page g ls (page_with g p l))) (append_assoc done (done_by g p l) (done_pages g ls (page_with g p l)))

-- from the start
pub walked_from_none : (g : Looks) (ls : List Line) → walked g.rows (heights g ls) nothing_walked ≡ walk_of (done_pages g ls no_page) (open_page g ls no_page)
unfolding shut lines_of
walked_from_none g ls = walked_is g ls [] no_page

-- a page that has lines goes on as the first of those that are still made
pub record GoesOn (p : Page) (ps : List Page) : Type 0 where
  pub others : List Line
  pub feet : List Line
  pub behind : List Page
  pub is : ps ≡ record { lines = p.lines ++ others; notes = feet } ∷ behind

pub goes_on : (g : Looks) (ls : List Line) (p : Page) → 0 < length p.lines → GoesOn p (fill g ls p.lines p.notes)
goes_on g [] p h = record { others = []; feet = p.notes; behind = []; is = rw (fill_nil g p, shut_some p h, append-nil) refl }
goes_on g (l ∷ ls) p h =
    rw (fill_cons g l ls p)
    (by_turns g p l (λ ps q. GoesOn p (ps ++ fill g ls q.lines q.notes))
    (λ _. record { others = []; feet = p.notes; behind = fill g ls (alone g l).lines (alone g l).notes; is = rw (shut_some p h, append-nil) refl })
    (λ _.
    let r = goes_on g ls (with_line g p l) (simp length-append (omega arith)) in
    record { others = (l ∷ []) ++ r.others; feet = r.feet; behind = r.behind; is = r.is ∙ rw append_assoc refl }))

-- each of some pages has the lines behind those of the pages before it
pub lines_at :
    (ps : List Page) (k : ℕ) → k < length ps →
    (get_or ps k no_page).lines ≡ take (length (get_or ps k no_page).lines) (drop (length (lines_of (take k ps))) (lines_of ps))
unfolding lines_of
lines_at ps k h =
    let p : Page = get_or ps k no_page in
    let front : List Line = lines_of (take k ps) in
    let back : List Line = lines_of (drop (k + 1) ps) in
    let cut : ps ≡ take k ps ++ (p ∷ drop (k + 1) ps) = sym (take-append-drop k ps) ∙ ap (λ (qs : List Page). take k ps ++ qs) (drop_more ps k no_page h) in
    let parts : lines_of ps ≡ front ++ (p.lines ++ back) = ap lines_of cut ∙ lines_of_append (take k ps) (p ∷ drop (k + 1) ps) in
    sym (ap (λ (ms : List Line). take (length p.lines) (drop (length front) ms)) parts
    ∙ ap (λ (ms : List Line). take (length p.lines) ms) (drop_at front (p.lines ++ back) (length front) refl) ∙ take_at p.lines back (length p.lines) refl)

-- the pages when the walk has seen line i
module _ (g : Looks) (ls : List Line) (i : ℕ) (h : i < length ls) where
  abbrev front : List Line
  front = take (i + 1) ls

  abbrev done : List Page
  done = done_pages g front no_page

  abbrev here : Page
  here = open_page g front no_page

  some : 0 < length here.lines
  some = lines_open g front no_page (omega (arith, length-take-le (i + 1) ls (omega arith)))

  on : GoesOn here (fill g (drop (i + 1) ls) here.lines here.notes)
  on = goes_on g (drop (i + 1) ls) here some

  abbrev whole : Page
  whole = record { lines = here.lines ++ on.others; notes = on.feet }

  parts : fill g ls [] [] ≡ done ++ (whole ∷ on.behind)
  parts =
      ap (λ (k : List Line). fill g k [] []) (sym (take-append-drop (i + 1) ls)) ∙ fill_append g front (drop (i + 1) ls) no_page
      ∙ ap (λ (ps : List Page). done ++ ps) on.is

  walk_is : walk_at g ls i ≡ walk_of done here
  walk_is = rw take-map (walked_from_none g front)

  page_before : (walk_at g ls i).pages - 1 ≡ length done
  page_before = ap (λ (w : Walk). w.pages - 1) walk_is ∙ rw (shut_some here some) (omega arith)

  lens : length (lines_of done) + length here.lines ≡ i + 1
  lens = sym (length-append (lines_of done) here.lines) ∙ ap length (lines_of_done_pages g front no_page) ∙ length-take-le (i + 1) ls (omega arith)

  pub walk_seen : (walk_at g ls i).before + (walk_at g ls i).lines ≡ i + 1
  walk_seen = ap (λ (w : Walk). w.before + w.lines) walk_is ∙ lens

  pub walk_begun : length (lines_of (take ((walk_at g ls i).pages - 1) (fill g ls [] []))) ≡ (walk_at g ls i).before
  walk_begun =
      ap (λ (n : ℕ). length (lines_of (take n (fill g ls [] [])))) page_before
      ∙ ap (λ (ps : List Page). length (lines_of ps)) (ap (take (length done)) parts ∙ take_at done (whole ∷ on.behind) (length done) refl)
      ∙ sym (ap (λ (w : Walk). w.before) walk_is)

  on_this : get_or (fill g ls [] []) ((walk_at g ls i).pages - 1) no_page ≡ whole
  on_this = rw (page_before, parts) (get_or_at done whole on.behind no_page (length done) refl)

  line_is : (d : Line) → get_or here.lines (length here.lines - 1) d ≡ get_or ls i d
  line_is d =
      let k : i - length (lines_of done) ≡ length here.lines - 1 = omega (arith, lens) in
      ap (λ (n : ℕ). get_or here.lines n d) (sym k)
      ∙ sym (get_or-append_right (lines_of done) here.lines (length (lines_of done)) i d refl (omega (arith, lens, some)))
      ∙ ap (λ (ms : List Line). get_or ms i d) (lines_of_done_pages g front no_page) ∙ get_or-take (i + 1) ls i d (omega arith)

  pub walk_on_page : (d : Line) → get_or (get_or (fill g ls [] []) ((walk_at g ls i).pages - 1) no_page).lines ((walk_at g ls i).lines - 1) d ≡ get_or ls i d
  walk_on_page d =
      ap (λ (p : Page). get_or p.lines ((walk_at g ls i).lines - 1) d) on_this ∙ ap (λ (w : Walk). get_or (here.lines ++ on.others) (w.lines - 1) d) walk_is
      ∙ get_or_append_left here.lines on.others d (length here.lines - 1) (omega (arith, some)) ∙ line_is d

pub walk_fills : WalkFills
walk_fills g ls =
    let from : ℕ → List Line → List Line = λ k ms. take (length (get_or (fill g ls [] []) k no_page).lines) (drop (length (lines_of (take k (fill g ls [] [])))) ms) in
    record {
      how_many = rw (walked_from_none g ls, fill_all g ls no_page, length-append) refl;
      seen = walk_seen g ls;
      on_page = λ i d h. walk_on_page g ls i h d;
      begun = walk_begun g ls;
      page_has = λ k h. lines_at (fill g ls [] []) k h ∙ ap (from k) (lines_of_fill g ls no_page);
    }
