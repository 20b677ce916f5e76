-- The page of a mark: over pages, and by the running count.
use Rattle.std.proofs.Common.{◌≡◌, ℕ, suc, ◌+◌, ◌<◌, true, false, ◌||◌, List, [], ◌∷◌, ◌++◌, length, sym, refl, ap, ◌∙◌, suc-add, arith}
use mathlib.Core.Bool.{or_assoc, or-false}
use Rattle.std.proofs.lemmas.List.{append-nil}
use Rattle.std.proofs.lemmas.Bool.{or_parts, or_left, false≢true}
use Rattle.meaning.specs.Text.{pick}
use Rattle.meaning.specs.Lines.{Line}
use Rattle.meaning.specs.Pages.{Looks, Page, fill, among, tagged, page_of}
use Rattle.meaning.specs.Calls.{no_page}
use Rattle.meaning.specs.Promise.{lines_of}
use Rattle.meaning.proofs.Picks.{pick_true, pick_false, pick_both}
use Rattle.meaning.proofs.Fills.{height, shut, shut_some, with_line, done_by, page_with, by_turns, fill_nil, fill_cons, lines_with, lines_of_shut}
use Rattle.meaning.proofs.Counts.{Count, none_yet, counted_one, count_of, NoStrayNotes, no_stray_with, counted_one_line}

pub tagged_append : (t : ℕ) (ls ms : List Line) → tagged t (ls ++ ms) ≡ (tagged t ls || tagged t ms)
unfolding tagged
tagged_append t [] ms = refl
tagged_append t (l ∷ ls) ms = ap (λ b. among t l.tags || b) (tagged_append t ls ms) ∙ sym (or_assoc (among t l.tags) (tagged t ls) (tagged t ms))

pub page_of_append : (t : ℕ) (ps qs : List Page) (n : ℕ) → tagged t (lines_of ps) ≡ false → page_of t (ps ++ qs) n ≡ page_of t qs (n + length ps)
unfolding page_of lines_of
page_of_append t [] qs n e = ap (page_of t qs) (omega arith)
page_of_append t (p ∷ ps) qs n e =
    let h = or_parts (tagged t p.lines) (tagged t (lines_of ps)) (sym (tagged_append t p.lines (lines_of ps)) ∙ e) in
    pick_false (tagged t p.lines) n _ h.0 ∙ page_of_append t ps qs (suc n) h.1 ∙ ap (page_of t qs) (omega arith)

pub page_of_none : (t : ℕ) (ps : List Page) (n : ℕ) → tagged t (lines_of ps) ≡ false → page_of t ps n ≡ 0
unfolding page_of
page_of_none t ps n e = ap (λ qs. page_of t qs n) (sym (append-nil ps)) ∙ page_of_append t ps [] n e

pub page_of_here : (t : ℕ) (p : Page) (ps : List Page) (n : ℕ) → tagged t p.lines ≡ true → page_of t (p ∷ ps) n ≡ n
unfolding page_of
page_of_here t p ps n e = pick_true (tagged t p.lines) n _ e

some_tagged : (t : ℕ) (ls : List Line) → tagged t ls ≡ true → 0 < length ls
unfolding tagged
some_tagged t [] e = absurd (false≢true e)
some_tagged t (l ∷ ls) e = omega arith

-- a mark on the open page
pub page_of_open : (g : Looks) (t : ℕ) (ls : List Line) (p : Page) (n : ℕ) → tagged t p.lines ≡ true → page_of t (fill g ls p.lines p.notes) n ≡ n
page_of_open g t [] p n e = rw (fill_nil g p, shut_some p (some_tagged t p.lines e)) (page_of_here t p [] n e)
page_of_open g t (l ∷ ls) p n e =
    rw (fill_cons g l ls p)
    (by_turns g p l (λ ps q. page_of t (ps ++ fill g ls q.lines q.notes) n ≡ n)
    (λ _. rw (shut_some p (some_tagged t p.lines e)) (page_of_here t p _ n e))
    (λ _. page_of_open g t ls (with_line g p l) n (tagged_append t p.lines (l ∷ []) ∙ or_left _ _ e)))

-- the page of the first line with the mark, by the count
unfoldable pub found_on : Looks → ℕ → List Line → Count → ℕ
found_on g t [] c = 0
found_on g t (l ∷ ls) c = pick (among t l.tags) (counted_one g.rows c (height g l)).pages (found_on g t ls (counted_one g.rows c (height g l)))

tagged_with : (g : Looks) (t : ℕ) (p : Page) (l : Line) → tagged t p.lines ≡ false → tagged t (page_with g p l).lines ≡ among t l.tags
unfolding tagged
tagged_with g t p l e =
    by_turns g p l (λ _ q. tagged t q.lines ≡ among t l.tags) (λ _. or-false (among t l.tags))
    (λ _. rw (tagged_append t p.lines (l ∷ []), e) (or-false (among t l.tags)))

tagged_done_by : (g : Looks) (t : ℕ) (p : Page) (l : Line) → tagged t p.lines ≡ false → tagged t (lines_of (done_by g p l)) ≡ false
unfolding tagged lines_of
tagged_done_by g t p l e = by_turns g p l (λ ps _. tagged t (lines_of ps) ≡ false) (λ _. ap (tagged t) (lines_of_shut p) ∙ e) (λ _. refl)

pub page_of_fill_from :
    (g : Looks) (t : ℕ) (ls : List Line) (n : ℕ) (p : Page) → NoStrayNotes p → tagged t p.lines ≡ false →
    page_of t (fill g ls p.lines p.notes) (suc n) ≡ found_on g t ls (count_of n p)
unfolding found_on
page_of_fill_from g t [] n p s e = rw (fill_nil g p) (page_of_none t (shut p) (suc n) (ap (tagged t) (lines_of_shut p) ∙ e))
page_of_fill_from g t (l ∷ ls) n p s e =
    let m : ℕ = n + length (done_by g p l) in
    let q : Page = page_with g p l in
    let marked : tagged t q.lines ≡ among t l.tags = tagged_with g t p l e in
    rw (fill_cons g l ls p, page_of_append t (done_by g p l) _ (suc n) (tagged_done_by g t p l e), counted_one_line g p l n s, suc-add)
    (pick_both (among t l.tags) _ _ (λ k. page_of t (fill g ls q.lines q.notes) (suc m) ≡ k)
    (λ a. page_of_open g t ls q (suc m) (marked ∙ a) ∙ rw (shut_some q (lines_with g p l)) (omega arith))
    (λ a. page_of_fill_from g t ls m q (no_stray_with g p l) (marked ∙ a)))

pub page_of_fill : (g : Looks) (t : ℕ) (ls : List Line) → page_of t (fill g ls [] []) 1 ≡ found_on g t ls none_yet
unfolding shut tagged
page_of_fill g t ls = page_of_fill_from g t ls 0 no_page (λ _. refl) refl
