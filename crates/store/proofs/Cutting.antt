-- Token bytes cut into paragraphs.
use Rattle.std.proofs.Common.{◌≡◌, ℕ, zero, suc, ◌+◌, ◌*◌, ◌<◌, ◌≤◌, ◌&&◌, true, ltb, List, [], ◌∷◌, length, get_or, take, drop, Some, None, slice_get, sym, refl, ap, ap₂, ◌∙◌, subst, inl, inr, arith, lit<}
use Rattle.std.specs.Simd.{first_chunks}
use Rattle.std.proofs.lemmas.List.{get_or-take, get_or-drop, drop-drop, length-drop}
use Rattle.std.proofs.lemmas.Option.{slice_get-get_or, slice_get_past}
use Rattle.std.proofs.lemmas.Bool.{le-leb, lt-leb, lt-ltb, le-ltb, and_from, and_right, cases_lt}
use Rattle.meaning.proofs.Picks.{pick_true, pick_false}
use Rattle.store.specs.Kept.{table_sum, entries_at, is_open}
use Rattle.store.specs.Changes.{paragraph_at}
use Rattle.store.specs.Paragraphs.{paragraphs_in}
use Rattle.store.proofs.Makes.{numbers_at}
use Rattle.store.proofs.Tables.{table_sum_zero, table_sum_front}

pub paragraphs_none : (ts : List ℕ) (es : List (List ℕ)) → length es ≡ 0 → paragraphs_in ts es ≡ []
unfolding paragraphs_in
paragraphs_none ts [] h = refl
paragraphs_none ts (e ∷ es) h = absurd (omega arith)

pub paragraphs_short : (ts e : List ℕ) (all es : List (List ℕ)) → all ≡ e ∷ es → length ts < get_or e 0 0 → paragraphs_in ts all ≡ []
unfolding paragraphs_in
paragraphs_short ts e all es s h = ap (paragraphs_in ts) s ∙ pick_false _ _ [] (lt-leb (get_or e 0 0) (length ts) h)

pub paragraphs_more :
    (ts e : List ℕ) (all es : List (List ℕ)) → all ≡ e ∷ es → get_or e 0 0 ≤ length ts → paragraphs_in ts all ≡ take (get_or e 0 0) ts ∷ paragraphs_in (drop (get_or e 0 0) ts) es
unfolding paragraphs_in
paragraphs_more ts e all es s h = ap (paragraphs_in ts) s ∙ pick_true _ _ [] (le-leb (get_or e 0 0) (length ts) h)

pub paragraphs_cut :
    (ts e : List ℕ) (all es : List (List ℕ)) (p behind : List ℕ) → all ≡ e ∷ es → get_or e 0 0 ≤ length ts → p ≡ take (get_or e 0 0) ts → behind ≡ drop (get_or e 0 0) ts →
    paragraphs_in ts all ≡ p ∷ paragraphs_in behind es
paragraphs_cut ts e all es p behind s h f g = paragraphs_more ts e all es s h ∙ ap₂ (λ q r. q ∷ paragraphs_in r es) (sym f) (sym g)

-- a table's first paragraph, and those behind it
module _ (first n : ℕ) (ts rs : List ℕ) (long : table_sum first (n + 1) rs ≤ length ts) where
  first_size : get_or (take 4 (drop first rs)) 0 0 ≡ get_or rs first 0
  first_size = get_or-take 4 (drop first rs) 0 0 (lit< tt) ∙ (get_or-drop first rs 0 0 ∙ ap (λ j. get_or rs j 0) (omega arith))

  behind_long : table_sum (first + 4) n rs ≤ length (drop (get_or rs first 0) ts)
  behind_long = omega (arith, table_sum_front first n rs, length-drop (get_or rs first 0) ts)

  first_cut :
      paragraphs_in ts (first_chunks 4 (suc n) (drop first rs))
      ≡ take (get_or rs first 0) ts ∷ paragraphs_in (drop (get_or rs first 0) ts) (first_chunks 4 n (drop (first + 4) rs))
  first_cut =
      paragraphs_more ts (take 4 (drop first rs)) _ (first_chunks 4 n (drop 4 (drop first rs))) refl (omega (arith, first_size, table_sum_front first n rs))
      ∙ ap₂ (λ m es. take m ts ∷ paragraphs_in (drop m ts) es) first_size (ap (first_chunks 4 n) (drop-drop 4 first rs))

-- the paragraphs of a table that token bytes are long enough for
pub length_paragraphs : (first n : ℕ) (ts rs : List ℕ) → table_sum first n rs ≤ length ts → length (paragraphs_in ts (first_chunks 4 n (drop first rs))) ≡ n
unfolding paragraphs_in
length_paragraphs first zero ts rs h = refl
length_paragraphs first (suc n) ts rs h =
    let next : suc n ≡ n + 1 = omega arith in
    let long : table_sum first (n + 1) rs ≤ length ts = subst (λ m. table_sum first m rs ≤ length ts) next h in
    ap length (first_cut first n ts rs long) ∙ ap suc (length_paragraphs (first + 4) n (drop (get_or rs first 0) ts) rs (behind_long first n ts rs long))

pub paragraph_from :
    (first n k : ℕ) (ts rs : List ℕ) → table_sum first n rs ≤ length ts → k < n →
    get_or (paragraphs_in ts (first_chunks 4 n (drop first rs))) k [] ≡ take (get_or rs (first + 4 * k) 0) (drop (table_sum first k rs) ts)
paragraph_from first zero k ts rs h l = absurd (omega arith)
paragraph_from first (suc n) zero ts rs h l =
    let next : suc n ≡ n + 1 = omega arith in
    let long : table_sum first (n + 1) rs ≤ length ts = subst (λ m. table_sum first m rs ≤ length ts) next h in
    let here : first ≡ first + 4 * 0 = omega arith in
    ap (λ ps. get_or ps 0 []) (first_cut first n ts rs long) ∙ ap₂ (λ i m. take (get_or rs i 0) (drop m ts)) here (sym (table_sum_zero first rs))
paragraph_from first (suc n) (suc k) ts rs h l =
    let next : suc n ≡ n + 1 = omega arith in
    let long : table_sum first (n + 1) rs ≤ length ts = subst (λ m. table_sum first m rs ≤ length ts) next h in
    let at : first + 4 + 4 * k ≡ first + 4 * suc k = omega arith in
    let later : suc k ≡ k + 1 = omega arith in
    ap (λ ps. get_or ps (suc k) []) (first_cut first n ts rs long)
    ∙ (paragraph_from (first + 4) n k (drop (get_or rs first 0) ts) rs (behind_long first n ts rs long) (omega arith)
    ∙ ap₂ (λ i xs. take (get_or rs i 0) xs) at
    (drop-drop (table_sum (first + 4) k rs) (get_or rs first 0) ts ∙ ap (λ m. drop m ts) (sym (ap (λ m. table_sum first m rs) later ∙ table_sum_front first k rs))))

-- those of an open book
module _ (ts rs : List ℕ) (opened : is_open (length ts) rs ≡ true) where
  book_long : table_sum 64 (get_or rs 4 0) rs ≤ length ts
  book_long = let n = numbers_at ts rs opened in omega (arith, n.bytes_add_up, n.within.bytes, n.bytes_long)

  pub length_of_book : length (paragraphs_in ts (entries_at rs)) ≡ get_or rs 4 0
  unfolding entries_at
  length_of_book = length_paragraphs 64 (get_or rs 4 0) ts rs book_long

  pub bytes_of_book : (i : ℕ) → i < get_or rs 4 0 → get_or (paragraphs_in ts (entries_at rs)) i [] ≡ take (get_or rs (64 + 4 * i) 0) (drop (table_sum 64 i rs) ts)
  unfolding entries_at
  bytes_of_book i l = paragraph_from 64 (get_or rs 4 0) i ts rs book_long l

  pub paragraph_of_book : (i : ℕ) → slice_get (paragraphs_in ts (entries_at rs)) i ≡ paragraph_at ts rs i
  paragraph_of_book i =
      elim (cases_lt i (get_or rs 4 0)) [
        | inl l ↦
            slice_get-get_or (paragraphs_in ts (entries_at rs)) i [] (omega (arith, length_of_book))
            ∙ (ap Some (bytes_of_book i l) ∙ sym (pick_true (is_open (length ts) rs && ltb i (get_or rs 4 0)) _ None (and_from _ _ opened (lt-ltb i (get_or rs 4 0) l))))
        | inr g ↦
            slice_get_past (paragraphs_in ts (entries_at rs)) i (omega (arith, length_of_book))
            ∙ sym (pick_false (is_open (length ts) rs && ltb i (get_or rs 4 0)) _ None (and_right _ _ (le-ltb i (get_or rs 4 0) g)))
      ]
