-- Page numbers: at rest they are right, and a text whose lines need none is at rest.
use Rattle.std.proofs.Common.{◌≡◌, ℕ, zero, suc, ◌<◌, true, eqb, List, [], Decides, refl, ap}
use Rattle.std.proofs.lemmas.Bool.{false≢true}
use Rattle.std.proofs.lemmas.Bool.Decides.{Decides-eqb, Decides-below_and}
use Rattle.meaning.specs.Text.{Tokens, Definition}
use Rattle.meaning.specs.Pages.{Looks, Page, fill, all_lines, pages, page_of, agree, Book, settle}
use Rattle.meaning.specs.Promise.{NumbersRight, AtRest}
use Rattle.meaning.proofs.Picks.{pick_true, pick_both}

pub decides_agree : (f h : ℕ → ℕ) (n : ℕ) → Decides (agree f h n) ((k : ℕ) → k < n → f k ≡ h k)
unfolding agree
decides_agree f h = Decides-below_and (λ k. eqb (f k) (h k)) (λ k. f k ≡ h k) (agree f h) (λ k. Decides-eqb (f k) (h k)) refl (λ _. refl)

-- a book made with the numbers of its own pages
abbrev pub RightNumbers : Looks → List Definition → List Tokens → List Page → Type 0
RightNumbers g ds ps made = (pg : ℕ → ℕ) × (made ≡ pages g ds pg ps) × ((l : ℕ) → l < 256 → pg l ≡ page_of l made 1)

pub right_from_rest : (k : ℕ) (g : Looks) (ds : List Definition) (ps : List Tokens) (pg : ℕ → ℕ) → (settle k g ds ps pg).at_rest ≡ true → RightNumbers g ds ps (settle k g ds ps pg).made
unfolding settle
right_from_rest zero g ds ps pg = λ e. absurd (false≢true e)
right_from_rest (suc k) g ds ps pg =
    let found : ℕ → ℕ = λ l. page_of l (pages g ds pg ps) 1 in
    pick_both (agree pg found 256) _ _ (λ (b : Book). b.at_rest ≡ true → RightNumbers g ds ps b.made)
    (λ a _. (pg, refl, (decides_agree pg found 256).0 a)) (λ _ e. right_from_rest k g ds ps found e)

pub numbers_right : NumbersRight
unfolding NumbersRight
numbers_right g ds ps e = right_from_rest 8 g ds ps (λ l. 0) e

-- lines that need no numbers: every round makes the same pages, and the second finds the numbers that it was given
abbrev pub NeedsNoNumbers : Looks → List Definition → List Tokens → Type 0
NeedsNoNumbers g ds ps = (pg qg : ℕ → ℕ) → all_lines g ds pg ps ≡ all_lines g ds qg ps

pub made_without_numbers : (k : ℕ) (g : Looks) (ds : List Definition) (ps : List Tokens) (pg qg : ℕ → ℕ) → NeedsNoNumbers g ds ps → (settle k g ds ps pg).made ≡ pages g ds qg ps
unfolding settle
made_without_numbers zero g ds ps pg qg same = ap (λ ls. fill g ls [] []) (same pg qg)
made_without_numbers (suc k) g ds ps pg qg same =
    let found : ℕ → ℕ = λ l. page_of l (pages g ds pg ps) 1 in
    pick_both (agree pg found 256) _ _ (λ (b : Book). b.made ≡ pages g ds qg ps) (λ _. ap (λ ls. fill g ls [] []) (same pg qg)) (λ _. made_without_numbers k g ds ps found qg same)

pub rest_without_numbers : (k : ℕ) (g : Looks) (ds : List Definition) (ps : List Tokens) (pg : ℕ → ℕ) → NeedsNoNumbers g ds ps → (settle (suc (suc k)) g ds ps pg).at_rest ≡ true
unfolding settle
rest_without_numbers k g ds ps pg same =
    let found : ℕ → ℕ = λ l. page_of l (pages g ds pg ps) 1 in
    let again : ℕ → ℕ = λ l. page_of l (pages g ds found ps) 1 in
    let steady : agree found again 256 ≡ true = (decides_agree found again 256).1 (λ l _. ap (λ ls. page_of l (fill g ls [] []) 1) (same pg found)) in
    pick_both (agree pg found 256) _ _ (λ (b : Book). b.at_rest ≡ true) (λ _. refl) (λ _. ap (λ (b : Book). b.at_rest) (pick_true (agree found again 256) _ _ steady))

pub at_rest : AtRest
unfolding AtRest
at_rest g ds ps same = rest_without_numbers 6 g ds ps (λ l. 0) same
