-- Pages by a running count: how many there are, and on which one a line is, from nothing but the rows that each line takes.
use Rattle.std.proofs.Common.{◌≡◌, ℕ, suc, ◌+◌, ◌-◌, ◌<◌, ◌≤◌, ◌||◌, eqb, ltb, List, [], ◌∷◌, ◌++◌, map, length, get_or, take, drop, sym, refl, ap, ◌∙◌, zero-add, arith}
use native.Mathlib.Nat.{sub-zero, sub-add-eq}
use Rattle.std.proofs.lemmas.List.{length-append, length-take-le, get_or_append_left, get_or-append_right, take-append-drop, take_more, take-map}
use Rattle.std.proofs.lemmas.Bool.{lt-ltb, le-ltb, ltb-true, ltb-false}
use Rattle.std.proofs.lemmas.Bool.Decides.{nat_tests}
use Rattle.meaning.specs.Text.{pick}
use Rattle.meaning.specs.Lines.{Line}
use Rattle.meaning.specs.Pages.{Looks, Page, fill}
use Rattle.meaning.specs.Calls.{no_page}
use Rattle.meaning.specs.Promise.{lines_of}
use Rattle.meaning.proofs.Picks.{pick_true, pick_false, pick_both}
use Rattle.meaning.proofs.Fills.{height, shut, turns, alone, with_line, done_by, page_with, by_turns, done_pages, open_page, fill_nil, fill_cons, fill_append, fill_all, lines_of_done_pages, lines_with, lines_open, lines_before, shut_some}

-- pages so far, the open one among them, and how many rows of that are taken
pub record Count : Type 0 where
  pub pages : ℕ
  pub used : ℕ

abbrev pub none_yet : Count
none_yet = record { pages = 0; used = 0 }

-- one more line, of h rows with its notes, where a page has r rows
unfoldable pub counted_one : ℕ → Count → ℕ → Count
counted_one r c h = pick (eqb c.used 0 || ltb r (c.used + h)) (record { pages = suc c.pages; used = h }) (record { pages = c.pages; used = c.used + h })

unfoldable pub counted : ℕ → List ℕ → Count → Count
counted r [] c = c
counted r (h ∷ hs) c = counted r hs (counted_one r c h)

pub counted_append : (r : ℕ) (hs ks : List ℕ) (c : Count) → counted r (hs ++ ks) c ≡ counted r ks (counted r hs c)
unfolding counted
counted_append r [] ks c = refl
counted_append r (h ∷ hs) ks c = counted_append r hs ks (counted_one r c h)

pub counted_more : (r : ℕ) (hs : List ℕ) (i : ℕ) (c : Count) → i < length hs → counted r (take (i + 1) hs) c ≡ counted_one r (counted r (take i hs) c) (get_or hs i 0)
unfolding counted
counted_more r hs i c h = ap (λ ks. counted r ks c) (take_more hs i 0 h) ∙ counted_append r (take i hs) (get_or hs i 0 ∷ []) c

abbrev pub heights : Looks → List Line → List ℕ
heights g ls = map (height g) ls

-- the count where n pages are done and page p is open; a page without lines has no notes
abbrev pub count_of : ℕ → Page → Count
count_of n p = record { pages = n + length (shut p); used = length p.lines + length p.notes }

abbrev pub NoStrayNotes : Page → Type 0
NoStrayNotes p = length p.lines ≡ 0 → length p.notes ≡ 0

same_count : (a b c d : ℕ) → a ≡ b → c ≡ d → ◌≡◌ {A = Count} (record { pages = a; used = c }) (record { pages = b; used = d })
same_count a b c d p q = λ i. record { pages = p i; used = q i }

-- count and page tell alike whether a line starts a new page
turns_count : (g : Looks) (p : Page) (l : Line) → NoStrayNotes p → (eqb (length p.lines + length p.notes) 0 || ltb g.rows (length p.lines + length p.notes + height g l)) ≡ turns g p l
unfolding turns
turns_count g p l s = grind (arith, nat_tests)

pub no_stray_with : (g : Looks) (p : Page) (l : Line) → NoStrayNotes (page_with g p l)
no_stray_with g p l e = absurd (omega (arith, lines_with g p l))

pub counted_one_line : (g : Looks) (p : Page) (l : Line) (n : ℕ) → NoStrayNotes p → counted_one g.rows (count_of n p) (height g l) ≡ count_of (n + length (done_by g p l)) (page_with g p l)
unfolding counted_one
counted_one_line g p l n s =
    let new : Count = record { pages = suc (n + length (shut p)); used = height g l } in
    let same : Count = record { pages = n + length (shut p); used = length p.lines + length p.notes + height g l } in
    rw (turns_count g p l s)
    (by_turns g p l (λ ps q. pick (turns g p l) new same ≡ count_of (n + length ps) q)
    (λ e. pick_true (turns g p l) new same e ∙ same_count _ _ _ _ (rw (shut_some (alone g l) (omega arith)) (omega arith)) (omega arith))
    (λ e. pick_false (turns g p l) new same e
    ∙ same_count _ _ _ _ (rw (shut_some p (lines_before g p l e), shut_some (with_line g p l) (simp length-append (omega arith))) (omega arith)) (simp length-append (omega arith))))

-- the count runs along with the pages
pub counted_heights :
    (g : Looks) (ls : List Line) (n : ℕ) (p : Page) → NoStrayNotes p →
    counted g.rows (heights g ls) (count_of n p) ≡ count_of (n + length (done_pages g ls p)) (open_page g ls p)
unfolding counted done_pages open_page
counted_heights g [] n p s = same_count _ _ _ _ (omega arith) refl
counted_heights g (l ∷ ls) n p s =
    ap (counted g.rows (heights g ls)) (counted_one_line g p l n s) ∙ counted_heights g ls (n + length (done_by g p l)) (page_with g p l) (no_stray_with g p l)
    ∙ same_count _ _ _ _ (simp length-append (omega arith)) refl

pub length_fill_from : (g : Looks) (ls : List Line) (n : ℕ) (p : Page) → NoStrayNotes p → (counted g.rows (heights g ls) (count_of n p)).pages ≡ n + length (fill g ls p.lines p.notes)
length_fill_from g ls n p s = rw (counted_heights g ls n p s, fill_all g ls p, length-append) (omega arith)

pub length_fill : (g : Looks) (ls : List Line) → length (fill g ls [] []) ≡ (counted g.rows (heights g ls) none_yet).pages
unfolding shut
length_fill g ls = sym (length_fill_from g ls 0 no_page (λ _. refl) ∙ zero-add (length (fill g ls [] [])))

-- the page on which a line is, both counted from 0
unfoldable pub page_at : List Page → ℕ → ℕ
page_at [] i = 0
page_at (p ∷ ps) i = pick (ltb i (length p.lines)) 0 (suc (page_at ps (i - length p.lines)))

pub page_at_here : (p : Page) (ps : List Page) (i : ℕ) → i < length p.lines → page_at (p ∷ ps) i ≡ 0
unfolding page_at
page_at_here p ps i h = pick_true (ltb i (length p.lines)) 0 _ (lt-ltb i (length p.lines) h)

pub page_at_append : (ps qs : List Page) (i : ℕ) → length (lines_of ps) ≤ i → page_at (ps ++ qs) i ≡ length ps + page_at qs (i - length (lines_of ps))
unfolding page_at lines_of
page_at_append [] qs i h = rw (zero-add, sub-zero)
page_at_append (p ∷ ps) qs i h =
    let k : length p.lines + length (lines_of ps) ≤ i = simp length-append at h in
    pick_false (ltb i (length p.lines)) 0 _ (le-ltb i (length p.lines) (omega arith))
    ∙ ap suc (page_at_append ps qs (i - length p.lines) (omega arith)) ∙ rw (length-append, sub-add-eq) (omega arith)

-- the open page goes on as the first of those that are still made
page_at_open : (g : Looks) (ls : List Line) (p : Page) (i : ℕ) → i < length p.lines → page_at (fill g ls p.lines p.notes) i ≡ 0
page_at_open g [] p i h = rw (fill_nil g p, shut_some p (omega arith)) (page_at_here p [] i h)
page_at_open g (l ∷ ls) p i h =
    rw (fill_cons g l ls p)
    (by_turns g p l (λ ps q. page_at (ps ++ fill g ls q.lines q.notes) i ≡ 0)
    (λ _. rw (shut_some p (omega arith)) (page_at_here p _ i h))
    (λ _. page_at_open g ls (with_line g p l) i (simp length-append (omega arith))))

pub page_at_fill : (g : Looks) (ls : List Line) (i : ℕ) → i < length ls → page_at (fill g ls [] []) i + 1 ≡ (counted g.rows (take (i + 1) (heights g ls)) none_yet).pages
unfolding shut
page_at_fill g ls i h =
    let front : List Line = take (i + 1) ls in
    let done : List Page = done_pages g front no_page in
    let here : Page = open_page g front no_page in
    let rest : List Page = fill g (drop (i + 1) ls) here.lines here.notes in
    let whole : length front ≡ i + 1 = length-take-le (i + 1) ls (omega arith) in
    let lens : length (lines_of done) + length here.lines ≡ i + 1 = sym (length-append (lines_of done) here.lines) ∙ ap length (lines_of_done_pages g front no_page) ∙ whole in
    let some : 0 < length here.lines = lines_open g front no_page (omega arith) in
    let parts : fill g ls [] [] ≡ done ++ rest = ap (λ k. fill g k [] []) (sym (take-append-drop (i + 1) ls)) ∙ fill_append g front (drop (i + 1) ls) no_page in
    let on : page_at (done ++ rest) i ≡ length done = page_at_append done rest i (omega arith) ∙ rw (page_at_open g (drop (i + 1) ls) here (i - length (lines_of done)) (omega arith)) (omega arith) in
    let count : (counted g.rows (heights g front) none_yet).pages ≡ length done + 1 = ap (λ (c : Count). c.pages) (counted_heights g front 0 no_page (λ _. refl)) ∙ rw (shut_some here some) (omega arith) in
    rw (parts, on, take-map) (sym count)

-- it is the page that it says
pub page_at_right :
    (ps : List Page) (i : ℕ) → i < length (lines_of ps) →
    (page_at ps i < length ps) × (length (lines_of (take (page_at ps i) ps)) ≤ i) × (i < length (lines_of (take (suc (page_at ps i)) ps)))
unfolding page_at lines_of
page_at_right [] i h = absurd (omega arith)
page_at_right (p ∷ ps) i h =
    let k : i < length p.lines + length (lines_of ps) = simp length-append at h in
    pick_both (ltb i (length p.lines)) 0 (suc (page_at ps (i - length p.lines)))
    (λ n. (n < length (p ∷ ps)) × (length (lines_of (take n (p ∷ ps))) ≤ i) × (i < length (lines_of (take (suc n) (p ∷ ps)))))
    (λ e. (omega arith, omega arith, simp length-append (omega (arith, ltb-true i (length p.lines) e))))
    (λ e.
    let f : length p.lines ≤ i = ltb-false i (length p.lines) e in
    let r = page_at_right ps (i - length p.lines) (omega arith) in
    (omega (arith, r.0), simp length-append (omega (arith, r.1)), simp length-append (omega (arith, r.2))))

pub getD_page_at :
    (ps : List Page) (i : ℕ) (d : Line) → i < length (lines_of ps) →
    get_or (lines_of ps) i d ≡ get_or (get_or ps (page_at ps i) no_page).lines (i - length (lines_of (take (page_at ps i) ps))) d
unfolding page_at lines_of
getD_page_at [] i d h = absurd (omega arith)
getD_page_at (p ∷ ps) i d h =
    let k : i < length p.lines + length (lines_of ps) = simp length-append at h in
    pick_both (ltb i (length p.lines)) 0 (suc (page_at ps (i - length p.lines)))
    (λ n. get_or (p.lines ++ lines_of ps) i d ≡ get_or (get_or (p ∷ ps) n no_page).lines (i - length (lines_of (take n (p ∷ ps)))) d)
    (λ e. rw sub-zero (get_or_append_left p.lines (lines_of ps) d i (ltb-true i (length p.lines) e)))
    (λ e.
    let f : length p.lines ≤ i = ltb-false i (length p.lines) e in
    rw (length-append, sub-add-eq) (get_or-append_right p.lines (lines_of ps) (length p.lines) i d refl f ∙ getD_page_at ps (i - length p.lines) d (omega arith)))
