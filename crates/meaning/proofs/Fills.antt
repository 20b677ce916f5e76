-- How lines fill pages: line by line, part by part, and what the pages hold.
use Rattle.std.proofs.Common.{◌≡◌, ℕ, suc, ◌+◌, ◌<◌, ◌≤◌, Bool, true, false, not, ◌||◌, eqb, ltb, leb, ◌⊎◌, List, [], ◌∷◌, ◌++◌, length, sym, refl, ap, ◌∙◌, inl, inr, arith}
use Rattle.std.proofs.lemmas.List.{append-nil, append_assoc, length-append, nil_from_length}
use Rattle.std.proofs.ByRecursion.{All-append, All-get_or}
use Rattle.std.proofs.lemmas.Bool.{eqb-true, ne_eqb, not-true, not-false, true≢false}
use Rattle.std.proofs.lemmas.Bool.Decides.{nat_tests}
use Rattle.std.specs.List.{AllByRecursion as All}
use Rattle.meaning.specs.Text.{pick}
use Rattle.meaning.specs.Lines.{Line}
use Rattle.meaning.specs.Pages.{Looks, Page, all_feet, fill}
use Rattle.meaning.specs.Calls.{no_page}
use Rattle.meaning.specs.Promise.{lines_of, notes_of, PageByPage}
use Rattle.meaning.proofs.Picks.{pick_true, pick_false, pick_both}

-- how many rows a line takes, with its notes
abbrev pub height : Looks → Line → ℕ
height g l = suc (length (all_feet g l.feet))

-- what becomes of the open page at the end: a page, unless it is empty
unfoldable pub shut : Page → List Page
shut p = pick (eqb (length p.lines) 0) [] (p ∷ [])

-- a page of one line, and a page with one more line
abbrev pub alone : Looks → Line → Page
alone g l = record { lines = l ∷ []; notes = all_feet g l.feet }

abbrev pub with_line : Looks → Page → Line → Page
with_line g p l = record { lines = p.lines ++ (l ∷ []); notes = p.notes ++ all_feet g l.feet }

-- while page p is open, does a line start a new one
unfoldable pub turns : Looks → Page → Line → Bool
turns g p l = eqb (length p.lines) 0 || ltb g.rows (length p.lines + length p.notes + height g l)

-- the pages that are done with when the line has come, and the page that it is on
unfoldable pub done_by : Looks → Page → Line → List Page
done_by g p l = pick (turns g p l) (shut p) []

unfoldable pub page_with : Looks → Page → Line → Page
page_with g p l = pick (turns g p l) (alone g l) (with_line g p l)

-- the same for several lines: the pages done with, and the page that is open then
unfoldable pub done_pages : Looks → List Line → Page → List Page
done_pages g [] p = []
done_pages g (l ∷ ls) p = done_by g p l ++ done_pages g ls (page_with g p l)

unfoldable pub open_page : Looks → List Line → Page → Page
open_page g [] p = p
open_page g (l ∷ ls) p = open_page g ls (page_with g p l)

pub shut_some : (p : Page) → 0 < length p.lines → shut p ≡ p ∷ []
unfolding shut
shut_some p h = pick_false (eqb (length p.lines) 0) [] (p ∷ []) (ne_eqb (length p.lines) 0 (λ e. omega arith))

turns_some :
    (g : Looks) (a : Line) (rs ns : List Line) (l : Line) →
    turns g (record { lines = a ∷ rs; notes = ns }) l ≡ not (leb (suc (length (a ∷ rs)) + (length ns + length (all_feet g l.feet))) g.rows)
unfolding turns
turns_some g a rs ns l = grind (arith, nat_tests)

pub fill_nil : (g : Looks) (p : Page) → fill g [] p.lines p.notes ≡ shut p
unfolding fill shut
fill_nil g p = go p.lines p.notes
  where
    go : (rs ns : List Line) → fill g [] rs ns ≡ shut (record { lines = rs; notes = ns })
    go [] ns = refl
    go (a ∷ rs) ns = sym (shut_some (record { lines = a ∷ rs; notes = ns }) (omega arith))

-- a line that starts no new page comes behind others, and has room
pub lines_before : (g : Looks) (p : Page) (l : Line) → turns g p l ≡ false → 0 < length p.lines
unfolding turns
lines_before g p l e = grind (arith, nat_tests)

pub room_for : (g : Looks) (p : Page) (l : Line) → turns g p l ≡ false → length p.lines + length p.notes + height g l ≤ g.rows
unfolding turns
room_for g p l e = grind (arith, nat_tests)

-- both ways that a line can go
pub by_turns :
    (g : Looks) (p : Page) (l : Line) (P : List Page → Page → Type 0) → (turns g p l ≡ true → P (shut p) (alone g l)) → (turns g p l ≡ false → P [] (with_line g p l)) →
    P (done_by g p l) (page_with g p l)
unfolding done_by page_with
by_turns g p l P new same = go (turns g p l) refl
  where
    go : (b : Bool) → turns g p l ≡ b → P (pick b (shut p) []) (pick b (alone g l) (with_line g p l))
    go true e = new e
    go false e = same e

pub fill_cons :
    (g : Looks) (l : Line) (ls : List Line) (p : Page) →
    fill g (l ∷ ls) p.lines p.notes ≡ done_by g p l ++ fill g ls (page_with g p l).lines (page_with g p l).notes
unfolding fill shut turns
fill_cons g l ls p = by_turns g p l (λ ps q. fill g (l ∷ ls) p.lines p.notes ≡ ps ++ fill g ls q.lines q.notes) (new p.lines p.notes) (same p.lines p.notes)
  where
    new : (rs ns : List Line) → let q : Page = record { lines = rs; notes = ns } in turns g q l ≡ true → fill g (l ∷ ls) rs ns ≡ shut q ++ fill g ls (l ∷ []) (all_feet g l.feet)
    new [] ns e = refl
    new (a ∷ rs) ns e = rw (shut_some (record { lines = a ∷ rs; notes = ns }) (omega arith)) (pick_false _ _ _ (not-true _ (sym (turns_some g a rs ns l) ∙ e)))

    same : (rs ns : List Line) → let q : Page = record { lines = rs; notes = ns } in turns g q l ≡ false → fill g (l ∷ ls) rs ns ≡ fill g ls (rs ++ (l ∷ [])) (ns ++ all_feet g l.feet)
    same [] ns e = absurd (true≢false e)
    same (a ∷ rs) ns e = pick_true _ _ _ (not-false _ (sym (turns_some g a rs ns l) ∙ e))

-- a line stands on a page with lines
pub lines_with : (g : Looks) (p : Page) (l : Line) → 0 < length (page_with g p l).lines
lines_with g p l = by_turns g p l (λ _ q. 0 < length q.lines) (λ _. omega arith) (λ _. simp length-append (omega arith))

pub lines_open : (g : Looks) (ls : List Line) (p : Page) → 0 < length ls → 0 < length (open_page g ls p).lines
unfolding open_page
lines_open g [] p h = absurd (omega arith)
lines_open g (l ∷ []) p h = lines_with g p l
lines_open g (l ∷ (m ∷ ls)) p h = lines_open g (m ∷ ls) (page_with g p l) (omega arith)

pub fill_append :
    (g : Looks) (ls ms : List Line) (p : Page) →
    fill g (ls ++ ms) p.lines p.notes ≡ done_pages g ls p ++ fill g ms (open_page g ls p).lines (open_page g ls p).notes
unfolding done_pages open_page
fill_append g [] ms p = refl
fill_append g (l ∷ ls) ms p = rw (fill_cons g l (ls ++ ms) p, fill_append g ls ms (page_with g p l), append_assoc)

pub fill_all : (g : Looks) (ls : List Line) (p : Page) → fill g ls p.lines p.notes ≡ done_pages g ls p ++ shut (open_page g ls p)
fill_all g ls p =
    ap (λ k. fill g k p.lines p.notes) (sym (append-nil ls)) ∙ fill_append g ls [] p ∙ ap (λ k. done_pages g ls p ++ k) (fill_nil g (open_page g ls p))

pub done_pages_append : (g : Looks) (ls ms : List Line) (p : Page) → done_pages g (ls ++ ms) p ≡ done_pages g ls p ++ done_pages g ms (open_page g ls p)
unfolding done_pages open_page
done_pages_append g [] ms p = refl
done_pages_append g (l ∷ ls) ms p = rw (done_pages_append g ls ms (page_with g p l), append_assoc)

pub open_page_append : (g : Looks) (ls ms : List Line) (p : Page) → open_page g (ls ++ ms) p ≡ open_page g ms (open_page g ls p)
unfolding open_page
open_page_append g [] ms p = refl
open_page_append g (l ∷ ls) ms p = open_page_append g ls ms (page_with g p l)

pub lines_of_append : (ps qs : List Page) → lines_of (ps ++ qs) ≡ lines_of ps ++ lines_of qs
unfolding lines_of
lines_of_append [] qs = refl
lines_of_append (p ∷ ps) qs = rw (lines_of_append ps qs, append_assoc)

pub notes_of_append : (g : Looks) (ls ms : List Line) → notes_of g (ls ++ ms) ≡ notes_of g ls ++ notes_of g ms
unfolding notes_of
notes_of_append g [] ms = refl
notes_of_append g (l ∷ ls) ms = rw (notes_of_append g ls ms, append_assoc)

pub lines_of_shut : (p : Page) → lines_of (shut p) ≡ p.lines
unfolding lines_of shut
lines_of_shut p =
    pick_both (eqb (length p.lines) 0) [] (p ∷ []) (λ ps. lines_of ps ≡ p.lines) (λ e. sym (nil_from_length p.lines (eqb-true (length p.lines) 0 e))) (λ _. append-nil p.lines)

-- no line is lost, and none comes twice
lines_of_done_by : (g : Looks) (p : Page) (l : Line) → lines_of (done_by g p l) ++ (page_with g p l).lines ≡ p.lines ++ (l ∷ [])
unfolding lines_of
lines_of_done_by g p l = by_turns g p l (λ ps q. lines_of ps ++ q.lines ≡ p.lines ++ (l ∷ [])) (λ _. ap (λ k. k ++ (l ∷ [])) (lines_of_shut p)) (λ _. refl)

pub lines_of_done_pages : (g : Looks) (ls : List Line) (p : Page) → lines_of (done_pages g ls p) ++ (open_page g ls p).lines ≡ p.lines ++ ls
unfolding done_pages open_page lines_of
lines_of_done_pages g [] p = sym (append-nil p.lines)
lines_of_done_pages g (l ∷ ls) p =
    rw (lines_of_append (done_by g p l) (done_pages g ls (page_with g p l)), append_assoc, lines_of_done_pages g ls (page_with g p l))
    (sym (append_assoc (lines_of (done_by g p l)) (page_with g p l).lines ls) ∙ ap (λ k. k ++ ls) (lines_of_done_by g p l) ∙ append_assoc p.lines (l ∷ []) ls)

pub lines_of_fill : (g : Looks) (ls : List Line) (p : Page) → lines_of (fill g ls p.lines p.notes) ≡ p.lines ++ ls
lines_of_fill g ls p = rw (fill_all g ls p, lines_of_append, lines_of_shut) (lines_of_done_pages g ls p)

-- a page with just the notes of its lines, and no more rows than a page has, unless it is one line with its notes
abbrev pub WellMade : Looks → Page → Type 0
WellMade g p = (p.notes ≡ notes_of g p.lines) × ((length p.lines + length p.notes ≤ g.rows) ⊎ (length p.lines ≡ 1))

pub well_made_with : (g : Looks) (p : Page) (l : Line) → WellMade g p → WellMade g (page_with g p l)
unfolding notes_of
well_made_with g p l h =
    by_turns g p l (λ _. WellMade g) (λ _. (sym (append-nil (all_feet g l.feet)), inr refl))
    (λ e. (rw (notes_of_append g p.lines (l ∷ []), append-nil, h.0) refl, inl (simp length-append (omega (arith, room_for g p l e)))))

all_shut : (P : Page → Type 0) (p : Page) → P p → All P (shut p)
unfolding shut
all_shut P p h = pick_both (eqb (length p.lines) 0) [] (p ∷ []) (All P) (λ _. tt) (λ _. (h, tt))

pub fill_well_made : (g : Looks) (ls : List Line) (p : Page) → WellMade g p → All (WellMade g) (fill g ls p.lines p.notes)
fill_well_made g [] p h = rw (fill_nil g p) (all_shut (WellMade g) p h)
fill_well_made g (l ∷ ls) p h =
    rw (fill_cons g l ls p)
    (All-append (WellMade g) (done_by g p l) _ (by_turns g p l (λ ps _. All (WellMade g) ps) (λ _. all_shut (WellMade g) p h) (λ _. tt))
    (fill_well_made g ls (page_with g p l) (well_made_with g p l h)))

pub page_by_page : PageByPage
unfolding PageByPage notes_of
page_by_page g ls =
    (lines_of_fill g ls no_page, λ k h. All-get_or (WellMade g) (fill g ls [] []) k no_page h (fill_well_made g ls no_page (refl, inl (omega arith))))
