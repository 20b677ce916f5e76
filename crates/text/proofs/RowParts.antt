-- A row is cut off from bytes, and rows one by one.
use Rattle.std.proofs.Common.{◌≡◌, ℕ, zero, suc, ◌+◌, ◌-◌, ◌*◌, ◌<◌, ◌≤◌, Bool, true, false, cond, eqb, leb, List, [], ◌∷◌, length, take, drop, is_some, Some, None, Option, sym, refl, ap, ◌∙◌, arith, length-drop}
use Rattle.std.specs.Option.{option_map}
use Rattle.std.proofs.lemmas.List.{drop-drop}
use Rattle.std.proofs.lemmas.Bool.{le-leb, leb-true, ne_eqb}
use Rattle.meaning.specs.Lines.{Placed}
use Rattle.wire.specs.Bytes.{two_at}
use Rattle.text.specs.Rows.{letters_of, row_first, row_then, rows_in}

pub row_whole : (bs : List ℕ) (n : ℕ) → n ≡ 5 * two_at bs 0 → 2 + n ≤ length bs → row_first bs ≡ Some (take n (drop 2 bs), drop n (drop 2 bs))
unfolding row_first
row_whole bs n is h = rw (le-leb (2 + 5 * two_at bs 0) (length bs) (omega arith), is, drop-drop (5 * two_at bs 0) 2 bs) refl

-- what stands behind a row is shorter
behind_row : (bs letters behind : List ℕ) → Some (letters, behind) ≡ row_first bs → length behind < length bs
unfolding row_first
behind_row bs letters behind e = go (leb (2 + 5 * two_at bs 0) (length bs)) refl e
  where
    go : (b : Bool) → leb (2 + 5 * two_at bs 0) (length bs) ≡ b →
        ◌≡◌ {A = Option (List ℕ × List ℕ)} (Some (letters, behind)) (cond b (Some (take (5 * two_at bs 0) (drop 2 bs), drop (2 + 5 * two_at bs 0) bs)) None) → length behind < length bs
    go true t f =
        let same : ◌≡◌ {A = List ℕ × List ℕ} (letters, behind) (take (5 * two_at bs 0) (drop 2 bs), drop (2 + 5 * two_at bs 0) bs) = cc in
        omega (arith, leb-true (2 + 5 * two_at bs 0) (length bs) t, ap (λ p. length p.1) same, length-drop (2 + 5 * two_at bs 0) bs)
    go false t f = cc

is_some_mapped : {A B : Type 0} (f : A → B) (o : Option A) → is_some (option_map f o) ≡ is_some o
is_some_mapped f None = refl
is_some_mapped f (Some x) = refl

-- how many rows are left after i of n
module _ (n i : ℕ) (bs : List ℕ) (h : i < n) where
  rows_in_step : rows_in (n - i) bs ≡ row_then (rows_in (n - (i + 1))) (row_first bs)
  unfolding rows_in
  rows_in_step = let e : n - i ≡ suc (n - (i + 1)) = omega arith in ap (λ k. rows_in k bs) e

  pub rows_broken : None ≡ row_first bs → is_some (rows_in (n - i) bs) ≡ false
  rows_broken e = ap is_some (rows_in_step ∙ ap (row_then (rows_in (n - (i + 1)))) (sym e))

  pub rows_on : (letters behind : List ℕ) → Some (letters, behind) ≡ row_first bs → is_some (rows_in (n - (i + 1)) behind) ≡ is_some (rows_in (n - i) bs)
  rows_on letters behind e =
      sym (ap is_some (rows_in_step ∙ ap (row_then (rows_in (n - (i + 1)))) (sym e)) ∙ is_some_mapped (λ rs. letters_of letters ∷ rs) (rows_in (n - (i + 1)) behind))

pub rows_end : (n : ℕ) (bs : List ℕ) → n ≡ 0 → eqb (length bs) 0 ≡ is_some (rows_in n bs)
unfolding rows_in
rows_end zero [] e = refl
rows_end zero (b ∷ bs) e = ne_eqb (suc (length bs)) 0 (λ f. omega arith)
rows_end (suc n) bs e = absurd (omega arith)

-- these rows are left
pub record RowsLeft (bs : List ℕ) (rs : List (List Placed)) : Type 0 where
  pub count : ℕ
  pub are : rows_in count bs ≡ Some rs

mapped_some : {A B : Type 0} (f : A → B) (o : Option A) (y : B) → option_map f o ≡ Some y → (x : A) × (o ≡ Some x) × (f x ≡ y)
mapped_some f None y e = cc
mapped_some f (Some x) y e = (x, refl, cc)

pub rows_next :
    (bs letters behind : List ℕ) (rs : List (List Placed)) → RowsLeft bs rs → Some (letters, behind) ≡ row_first bs →
    (more : List (List Placed)) × (rs ≡ letters_of letters ∷ more) × RowsLeft behind more
unfolding rows_in
rows_next bs letters behind rs left e = go left.count bs left.are e
  where
    go : (n : ℕ) (cs : List ℕ) → rows_in n cs ≡ Some rs → Some (letters, behind) ≡ row_first cs → (more : List (List Placed)) × (rs ≡ letters_of letters ∷ more) × RowsLeft behind more
    go zero [] f e = absurd (omega (arith, behind_row [] letters behind e))
    go zero (c ∷ cs) f e = cc
    go (suc n) cs f e =
        let m = mapped_some (λ qs. letters_of letters ∷ qs) (rows_in n behind) rs (ap (row_then (rows_in n)) e ∙ f) in
        (m.0, sym m.2, record { count = n; are = m.1 })

pub rows_over : (bs : List ℕ) (rs : List (List Placed)) → RowsLeft bs rs → None ≡ row_first bs → rs ≡ []
unfolding rows_in
rows_over bs rs left e = go left.count bs left.are e
  where
    go : (n : ℕ) (cs : List ℕ) → rows_in n cs ≡ Some rs → None ≡ row_first cs → rs ≡ []
    go zero [] f e = cc
    go zero (c ∷ cs) f e = cc
    go (suc n) cs f e = let no : ◌≡◌ {A = Option (List (List Placed))} None (Some rs) = ap (row_then (rows_in n)) e ∙ f in cc

pub length_rows : (n : ℕ) (bs : List ℕ) (rs : List (List Placed)) → rows_in n bs ≡ Some rs → length rs ≡ n
unfolding rows_in
length_rows zero [] rs e = let same : rs ≡ [] = cc in ap length same
length_rows zero (b ∷ bs) rs e = cc
length_rows (suc n) bs rs e = go (row_first bs) (λ cs qs. length_rows n cs qs) e
  where
    go : (o : Option (List ℕ × List ℕ)) → ((cs : List ℕ) (qs : List (List Placed)) → rows_in n cs ≡ Some qs → length qs ≡ n) → row_then (rows_in n) o ≡ Some rs → length rs ≡ suc n
    go None rest f = cc
    go (Some p) rest f =
        let m = mapped_some (λ qs. letters_of p.0 ∷ qs) (rows_in n p.1) rs f in
        omega (arith, ap length m.2, rest p.1 m.0 m.1)
