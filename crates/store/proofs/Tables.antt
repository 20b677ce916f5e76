-- The entries of paragraphs, added up.
use Rattle.std.proofs.Common.{◌≡◌, ℕ, zero, suc, ◌+◌, ◌-◌, ◌*◌, ◌/◌, ◌<◌, ◌≤◌, List, [], ◌∷◌, length, get_or, take, drop, sum_by, refl, ap, ◌∙◌, ap₂, inl, inr, add-one, arith}
use Rattle.std.proofs.lemmas.List.{get_or-take, get_or-drop, drop-drop, drop-take, take-take, length-drop, length-take-le}
use Rattle.std.proofs.lemmas.List.Sums.{sum_by-append}
use Rattle.std.specs.Simd.{first_chunks}
use Rattle.std.proofs.lemmas.Bool.{cases_order}
use Rattle.store.specs.Kept.{table_sum, entries_at}
use Rattle.std.proofs.Math.Seq.{take-add}

pub table_sum_zero : (first : ℕ) (rs : List ℕ) → table_sum first 0 rs ≡ 0
unfolding table_sum
table_sum_zero first rs = refl

pub table_sum_more : (first n : ℕ) (rs : List ℕ) → table_sum first (n + 1) rs ≡ table_sum first n rs + get_or rs (first + 4 * n) 0
unfolding table_sum
table_sum_more first n rs = ap (λ m. table_sum first m rs) (add-one n)

pub table_sum_le : (first n m : ℕ) (rs : List ℕ) → n ≤ m → table_sum first n rs ≤ table_sum first m rs
unfolding table_sum
table_sum_le first n zero rs h = let e : n ≡ 0 = omega arith in rw e (omega arith)
table_sum_le first n (suc m) rs h =
    elim (cases_order n (suc m)) [
      | inl e ↦ rw e (omega arith)
      | inr o ↦ elim o [ inl l ↦ omega (arith, table_sum_le first n m rs (omega arith)) | inr g ↦ absurd (omega arith) ]
    ]

pub table_sum_take : (first n k : ℕ) (rs : List ℕ) → first + 4 * n ≤ k + 3 → table_sum first n (take k rs) ≡ table_sum first n rs
unfolding table_sum
table_sum_take first zero k rs h = refl
table_sum_take first (suc n) k rs h = ap₂ ◌+◌ (table_sum_take first n k rs (omega arith)) (get_or-take k rs (first + 4 * n) 0 (omega arith))

pub table_sum_front : (first n : ℕ) (rs : List ℕ) → table_sum first (n + 1) rs ≡ get_or rs first 0 + table_sum (first + 4) n rs
table_sum_front first zero rs =
    let at : get_or rs (first + 4 * 0) 0 ≡ get_or rs first 0 = ap (λ j. get_or rs j 0) (omega arith) in
    omega (arith, table_sum_more first 0 rs, table_sum_zero first rs, table_sum_zero (first + 4) rs)
table_sum_front first (suc n) rs =
    let at : get_or rs (first + 4 * (n + 1)) 0 ≡ get_or rs (first + 4 + 4 * n) 0 = ap (λ j. get_or rs j 0) (omega arith) in
    let one : table_sum first (suc n + 1) rs ≡ table_sum first (n + 1 + 1) rs = ap (λ m. table_sum first m rs) (omega arith) in
    let two : table_sum (first + 4) (suc n) rs ≡ table_sum (first + 4) (n + 1) rs = ap (λ m. table_sum (first + 4) m rs) (omega arith) in
    omega (arith, table_sum_more first (n + 1) rs, table_sum_more (first + 4) n rs, table_sum_front first n rs)

-- a field of the entries, added up
pub sum_of_entries : (first j n : ℕ) (rs : List ℕ) → j < 4 → sum_by (λ e. get_or e j 0) (first_chunks 4 n (drop first rs)) ≡ table_sum (first + j) n rs
unfolding table_sum
sum_of_entries first j zero rs h = refl
sum_of_entries first j (suc n) rs h =
    let here : get_or (take 4 (drop first rs)) j 0 ≡ get_or rs (first + j) 0 = get_or-take 4 (drop first rs) j 0 h ∙ get_or-drop first rs j 0 in
    let behind : sum_by (λ e. get_or e j 0) (first_chunks 4 n (drop 4 (drop first rs))) ≡ table_sum (first + j + 4) n rs =
    ap (λ xs. sum_by (λ e. get_or e j 0) (first_chunks 4 n xs)) (drop-drop 4 first rs) ∙ (sum_of_entries (first + 4) j n rs h ∙ ap (λ m. table_sum m n rs) (omega arith)) in
    let next : suc n ≡ n + 1 = omega arith in
    let one : table_sum (first + j) (suc n) rs ≡ table_sum (first + j) (n + 1) rs = ap (λ m. table_sum (first + j) m rs) next in
    sum_by-append (λ e. get_or e j 0) (take 4 (drop first rs) ∷ []) (first_chunks 4 n (drop 4 (drop first rs))) ∙ omega (arith, table_sum_front (first + j) n rs)

-- the first entries are entries
chunks_take : (n k m : ℕ) (xs : List ℕ) → k ≤ m → take k (first_chunks n m xs) ≡ first_chunks n k xs
chunks_take n zero m xs h = refl
chunks_take n (suc k) zero xs h = absurd (omega arith)
chunks_take n (suc k) (suc m) xs h = ap (λ cs. take n xs ∷ cs) (chunks_take n k m (drop n xs) (omega arith))

length_chunks : (n m : ℕ) (xs : List ℕ) → length (first_chunks n m xs) ≡ m
length_chunks n zero xs = refl
length_chunks n (suc m) xs = ap suc (length_chunks n m (drop n xs))

pub length_table : (first n : ℕ) (rs : List ℕ) → length (first_chunks 4 n (drop first rs)) ≡ n
length_table first n rs = length_chunks 4 n (drop first rs)

pub length_entries : (rs : List ℕ) → length (entries_at rs) ≡ get_or rs 4 0
unfolding entries_at
length_entries rs = length_chunks 4 (get_or rs 4 0) (drop 64 rs)

-- of the first entries of a table, and of some behind them
module _ (first n : ℕ) (rs : List ℕ) where
  abbrev table : List (List ℕ)
  table = first_chunks 4 n (drop first rs)

  pub sum_front : (j a : ℕ) → j < 4 → a ≤ n → sum_by (λ e. get_or e j 0) (take a (first_chunks 4 n (drop first rs))) ≡ table_sum (first + j) a rs
  sum_front j a h l = ap (sum_by (λ e. get_or e j 0)) (chunks_take 4 a n (drop first rs) l) ∙ sum_of_entries first j a rs h

  pub sum_part : (j a b : ℕ) → j < 4 → a + b ≤ n → sum_by (λ e. get_or e j 0) (take b (drop a (first_chunks 4 n (drop first rs)))) ≡ table_sum (first + j) (a + b) rs - table_sum (first + j) a rs
  sum_part j a b h l =
      let f : List ℕ → ℕ = λ e. get_or e j 0 in
      let split : sum_by f (take (a + b) table) ≡ sum_by f (take a table) + sum_by f (take b (drop a table)) =
      ap (sum_by f) (take-add a b table) ∙ sum_by-append f (take a table) (take b (drop a table)) in
      omega (arith, sum_front j a h (omega arith), sum_front j (a + b) h l)

-- what stands behind a table does not matter to it
chunks_before : (m k : ℕ) (xs : List ℕ) → 4 * m ≤ k → first_chunks 4 m (take k xs) ≡ first_chunks 4 m xs
chunks_before zero k xs h = refl
chunks_before (suc m) k xs h =
    let more : k ≡ 4 + (k - 4) = omega arith in
    let behind : drop 4 (take k xs) ≡ take (k - 4) (drop 4 xs) = ap (λ j. drop 4 (take j xs)) more ∙ drop-take 4 (k - 4) xs in
    ap₂ ◌∷◌ (take-take 4 k xs (omega arith)) (ap (first_chunks 4 m) behind ∙ chunks_before m (k - 4) (drop 4 xs) (omega arith))

pub entries_take : (k : ℕ) (rs : List ℕ) → 64 + 4 * get_or rs 4 0 ≤ k → entries_at (take k rs) ≡ entries_at rs
unfolding entries_at
entries_take k rs h =
    let more : k ≡ 64 + (k - 64) = omega arith in
    let number : get_or (take k rs) 4 0 ≡ get_or rs 4 0 = get_or-take k rs 4 0 (omega arith) in
    let numbers : drop 64 (take k rs) ≡ take (k - 64) (drop 64 rs) = ap (λ j. drop 64 (take j rs)) more ∙ drop-take 64 (k - 64) rs in
    ap₂ (first_chunks 4) number numbers ∙ chunks_before (get_or rs 4 0) (k - 64) (drop 64 rs) (omega arith)

-- the entries among all chunks from where they begin
pub entries_in_front :
    (first : ℕ) (front : List ℕ) (chunks : List (List ℕ)) (n k : ℕ) → k ≡ length front - first → chunks ≡ first_chunks 4 (length (take k (drop first front)) / 4) (take k (drop first front)) →
    first + 4 * n ≤ length front → take n chunks ≡ first_chunks 4 n (drop first front)
entries_in_front first front chunks n k long e room =
    let whole : length (take k (drop first front)) ≡ k = length-take-le k (drop first front) (omega (arith, length-drop first front)) in
    ap (take n) e ∙ (chunks_take 4 n _ (take k (drop first front)) (omega arith) ∙ chunks_before n k (drop first front) (omega arith))
