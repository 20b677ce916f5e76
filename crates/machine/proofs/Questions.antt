-- A question as a step: it changes nothing, and is answered by the pages of the text.
use Rattle.std.proofs.Common.{◌≡◌, ℕ, ◌+◌, ◌-◌, ◌*◌, ◌≤◌, Bool, true, false, eqb, ltb, leb, List, [], ◌++◌, length, get_or, take, drop, replicate, sym, refl, ap, ◌∙◌, arith}
use Rattle.std.proofs.lemmas.List.{drop-replicate, replicate-append-replicate}
use Rattle.meaning.specs.Text.{pick, Tokens}
use Rattle.meaning.specs.Pages.{Looks, Page, page_of, book}
use Rattle.meaning.specs.Calls.{Call, show, where_is, how_many, Answer, refused, rows, numbers, Limits, good_call, fits, changed, turned_by, turned, told, place, answer, page_rows, no_page}
use Rattle.meaning.specs.Promise.{Memory, GoodLooks, GoodLimits}
use Rattle.meaning.proofs.Picks.{pick_true, pick_same}
use Rattle.words.specs.Atoms.{cleared}
use Rattle.store.specs.Opened.{words_asked, rest_of}
use Rattle.store.specs.Kept.{is_open}
use Rattle.layout.specs.Books.{pages_in}
use Rattle.machine.specs.Setter.{Wish, to_show, to_find, to_count, wish, worked_on, says_to, left_by_wish, says, next}
use Rattle.machine.proofs.Memories.{memory, rest_tells}
use Rattle.machine.proofs.Fits.{plain, fitting}
use Rattle.machine.proofs.OpenText.{memory_open}
use Rattle.machine.proofs.Steps.{Holds, Step}

-- a working part of zeros stays so
zeros_cleared : (n w : ℕ) → n ≤ w → cleared n (replicate w 0) ≡ replicate w 0
zeros_cleared n w l =
    let all : n + (w - n) ≡ w = omega arith in
    ap (λ (xs : List ℕ). replicate n 0 ++ xs) (drop-replicate n w 0) ∙ (replicate-append-replicate n (w - n) 0 ∙ ap (λ m. replicate m 0) all)

-- by which number a question about rows is turned away, where x tells whether the page is there, and y whether the rows are
abbrev turned_at : Bool → Bool → ℕ
turned_at x y = pick (eqb (pick x (pick y 0 5) 5) 0) 0 (pick x (pick y 0 5) 5)

shown_so : (x y : Bool) (a : Answer) (r k : ℕ) → pick x (pick y a (refused 5 r)) (refused 5 k) ≡ pick (eqb (turned_at x y) 0) a (refused (turned_at x y) (pick (eqb (turned_at x y) 5) (pick x r k) 0))
shown_so true true a r k = refl
shown_so true false a r k = refl
shown_so false y a r k = refl

module _
    (l : Limits) (g : Looks) (good : GoodLooks g) (small : GoodLimits l) (ps : List Tokens) (h : Holds l ps)
    (there : pages_in (memory l g ps).tokens (rest_of (memory l g ps)) ≡ (book g [] ps).made)
  where
    m : Memory
    m = memory l g ps

    opened : is_open (length m.tokens) (rest_of m) ≡ true
    unfolding m
    opened = memory_open l g ps (fitting l ps h.fit) good small

    same_after_work : worked_on m ≡ m
    unfolding m memory
    same_after_work =
        let bulk : get_or (rest_of (memory l g ps)) 3 0 ≡ l.bulk = (rest_tells l g ps).most_bulk in
        pick_true (is_open (length m.tokens) (rest_of m)) _ m opened
        ∙ ap (λ (ws : List ℕ). record { tokens = m.tokens; words = ws; kept = m.kept }) (ap (λ b. cleared (17 * b) (replicate (words_asked l) 0)) bulk ∙ zeros_cleared (17 * l.bulk) (words_asked l) (omega arith))

    -- a good question fits as the text does
    turned_so : (c : Call) → good_call l c ≡ true → changed (plain ps) c ≡ plain ps → turned l g (plain ps) c ≡ pick (eqb (turned_by g (plain ps) c) 0) 0 (turned_by g (plain ps) c)
    turned_so c can same =
        pick_true (good_call l c) _ 2 can
        ∙ ap (λ b. pick (eqb (turned_by g (plain ps) c) 0) (pick b 0 6) (turned_by g (plain ps) c)) (ap (fits l) same ∙ h.fit)

    module _ (c : Call) (w : Wish) (asks : wish (rest_of (memory l g ps)) c ≡ w) (stays : left_by_wish w (memory l g ps) ≡ memory l g ps) (same : changed (plain ps) c ≡ plain ps) where
      question : says_to w (memory l g ps) ≡ answer l g (plain ps) c → Step l g ps c
      unfolding says next
      question so =
          record {
            afterwards = ps;
            means = ap (λ t. pick (eqb (turned l g (plain ps) c) 0) t (plain ps)) same ∙ pick_same (eqb (turned l g (plain ps) c) 0) (plain ps);
            leaves = ap (λ x. left_by_wish x (memory l g ps)) asks ∙ stays;
            answers_so = ap (λ x. says_to x (memory l g ps)) asks ∙ so;
            holds = h;
          }

    pub step_show : (k r n : ℕ) → wish (rest_of (memory l g ps)) (show k r n) ≡ to_show k r n → good_call l (show k r n) ≡ true → Step l g ps (show k r n)
    unfolding m turned_by changed told place
    step_show k r n asks can =
        let b : List Page = (book g [] ps).made in
        let x : List Page → Bool = λ ms. ltb k (length ms) in
        let y : List Page → Bool = λ ms. leb (r + n) (length (page_rows (get_or ms k no_page))) in
        let some : List Page → Answer = λ ms. rows (take n (drop r (page_rows (get_or ms k no_page)))) in
        question (show k r n) (to_show k r n) asks same_after_work refl
        (pick_true (is_open (length m.tokens) (rest_of m)) _ (refused 3 2) opened
        ∙ (ap (λ ms. pick (x ms) (pick (y ms) (some ms) (refused 5 r)) (refused 5 k)) there
        ∙ (shown_so (x b) (y b) (some b) r k
        ∙ sym (ap (λ t. pick (eqb t 0) (some b) (refused t (pick (eqb t 5) (pick (x b) r k) 0))) (turned_so (show k r n) can refl)))))

    pub step_find : (q : ℕ) → page_of q (book g [] ps).made 1 ≡ 0 → wish (rest_of (memory l g ps)) (where_is q) ≡ to_find → good_call l (where_is q) ≡ true → Step l g ps (where_is q)
    unfolding m turned_by changed told place
    step_find q nowhere asks can =
        question (where_is q) to_find asks refl refl
        (pick_true (is_open (length m.tokens) (rest_of m)) _ (refused 3 2) opened
        ∙ sym (ap (λ t. pick (eqb t 0) (numbers (page_of q (book g [] ps).made 1) 0) (refused t 0)) (turned_so (where_is q) can refl) ∙ ap (λ p. numbers p 0) nowhere))

    pub step_count : (book g [] ps).at_rest ≡ true → wish (rest_of (memory l g ps)) how_many ≡ to_count → good_call l how_many ≡ true → Step l g ps how_many
    unfolding m turned_by changed told place
    step_count rests asks can =
        question how_many to_count asks same_after_work refl
        (pick_true (is_open (length m.tokens) (rest_of m)) _ (refused 3 2) opened
        ∙ (ap (λ ms. numbers (length ms) 1) there
        ∙ sym (ap (λ t. pick (eqb t 0) (numbers (length (book g [] ps).made) (pick (book g [] ps).at_rest 1 0)) (refused t 0)) (turned_so how_many can refl)
        ∙ ap (λ b. numbers (length (book g [] ps).made) (pick b 1 0)) rests)))
