-- A row of numbers with zeros behind it, and what a splice makes of it.
use Rattle.std.proofs.Common.{◌≡◌, ℕ, ◌+◌, ◌-◌, ◌≤◌, max, List, ◌++◌, length, take, drop, replicate, sym, refl, ap, ◌∙◌, arith}
use Rattle.std.proofs.lemmas.List.{append_assoc, length-append, length-replicate, take_at, drop_at, drop-drop, drop-replicate, replicate-append-replicate}
use Rattle.store.specs.Changes.{spliced}

-- with zeros behind it, n numbers in all
abbrev pub padded : ℕ → List ℕ → List ℕ
padded n xs = xs ++ replicate (n - length xs) 0

pub length_padded : (n : ℕ) (xs : List ℕ) → length xs ≤ n → length (padded n xs) ≡ n
length_padded n xs h = simp (length-append, length-replicate) (omega arith)

module _ (front old back new : List ℕ) (z : ℕ) where
  before : List ℕ
  before = front ++ (old ++ (back ++ replicate z 0))

  -- how many of the zeros the new numbers take
  more : ℕ
  more = max (length old) (length new) - length old

  drop_old : drop (length front + length old) before ≡ back ++ replicate z 0
  unfolding before
  drop_old =
      ap (drop (length front + length old)) (sym (append_assoc front old (back ++ replicate z 0)))
      ∙ drop_at (front ++ old) (back ++ replicate z 0) (length front + length old) (length-append front old)

  drop_zeros : drop (length front + max (length old) (length new) + length back) before ≡ replicate (z - more) 0
  unfolding more
  drop_zeros =
      let sum : length front + max (length old) (length new) + length back ≡ (length front + length old) + (length back + more) = omega arith in
      ap (λ k. drop k before) sum
      ∙ (sym (drop-drop (length back + more) (length front + length old) before)
      ∙ (ap (drop (length back + more)) drop_old
      ∙ (sym (drop-drop more (length back) (back ++ replicate z 0)) ∙ (ap (drop more) (drop_at back (replicate z 0) (length back) refl) ∙ drop-replicate more z 0))))

  spliced_zeros :
      length new ≤ length old + z → spliced before (length front) (length old) (length back) new ≡ front ++ (new ++ (back ++ replicate (length old + z - length new) 0))
  unfolding spliced before more
  spliced_zeros h =
      let first : take (length front) before ≡ front = take_at front (old ++ (back ++ replicate z 0)) (length front) refl in
      let kept : take (length back) (drop (length front + length old) before) ≡ back = ap (take (length back)) drop_old ∙ take_at back (replicate z 0) (length back) refl in
      let all : length old - length new + (z - more) ≡ length old + z - length new = omega arith in
      rw (first, kept, drop_zeros, replicate-append-replicate {A = ℕ} (length old - length new) (z - more) 0, all) refl

-- new numbers for old ones: the row is as long as it was
pub spliced_padded :
    (n : ℕ) (front old back new : List ℕ) → length front + (length old + length back) ≤ n → length front + (length new + length back) ≤ n →
    spliced (padded n (front ++ (old ++ back))) (length front) (length old) (length back) new ≡ padded n (front ++ (new ++ back))
unfolding before
spliced_padded n front old back new h k =
    let z : ℕ = n - length (front ++ (old ++ back)) in
    let olds : length (front ++ (old ++ back)) ≡ length front + (length old + length back) = simp length-append in
    let news : length (front ++ (new ++ back)) ≡ length front + (length new + length back) = simp length-append in
    let left : length old + z - length new ≡ n - length (front ++ (new ++ back)) = omega arith in
    ap (λ xs. spliced xs (length front) (length old) (length back) new) (simp append_assoc refl)
    ∙ (spliced_zeros front old back new z (omega arith) ∙ (ap (λ m. front ++ (new ++ (back ++ replicate m 0))) left ∙ simp append_assoc refl))
