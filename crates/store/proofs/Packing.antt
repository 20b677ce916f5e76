-- The letters' widths, eight to a number.
use Rattle.std.proofs.Common.{◌≡◌, ℕ, zero, suc, ◌+◌, ◌-◌, ◌*◌, ◌/◌, ◌<◌, ◌≤◌, List, [], ◌∷◌, ◌++◌, length, get_or, map, refl, ap, ap₂, ◌∙◌, subst, inl, inr, arith, lit<, w64}
use denote.Param.Members.{Called, Mut}
use Rattle.std.specs.Array.{IsFromFnResultFrom, IsFromFnResult}
use Rattle.std.specs.Int.{from_le_bytes}
use Rattle.std.specs.List.{range_with_len}
use Rattle.std.specs.Simd.{first_chunks}
use Rattle.std.proofs.lemmas.List.{length-append}
use Rattle.std.proofs.lemmas.List.FromFn.{fill_by_all}
use Rattle.std.proofs.lemmas.Bool.{cases_order}
use Rattle.wire.proofs.Chunks.{chunk_at}
use Rattle.store.specs.Opened.{packed}

-- an array made by calls of a closure that changes nothing
module _ {F B : Type 0} (g : Mut F (ℕ × Unit {0}) B) (f : F) (h : ℕ → B) (top : ℕ) (by : (i : ℕ) (y : B) (q : F) → i < top → Called g f (i, tt) y q → (q ≡ f) × (y ≡ h i)) where
  calls_at : (ys : List B) (i n : ℕ) → i + n ≤ top → IsFromFnResultFrom g f ys i n → (j : ℕ) (e : B) → i ≤ j → j < i + n → get_or ys j e ≡ h j
  calls_at ys i zero room w j e a b = absurd (omega arith)
  calls_at ys i (suc n) room w j e a b =
      let k = by i w.1 w.0 (omega arith) w.3 in
      elim (cases_order i j) [
        | inl same ↦ subst (λ m. get_or ys m e ≡ h m) same (w.2.1 e ∙ k.1)
        | inr apart ↦ calls_at ys (i + 1) n (omega arith) (subst (λ p. IsFromFnResultFrom g p ys (i + 1) n) k.0 w.4) j e (elim apart [ inl l ↦ omega arith | inr l ↦ absurd (omega arith) ]) (omega arith)
      ]

  pub made_by_calls : (ys : List B) → B → IsFromFnResult g f ys top → ys ≡ map h (range_with_len 0 top)
  made_by_calls ys e r = fill_by_all h ys top e r.long (λ k l. calls_at ys 0 top (omega arith) r.each k e (omega arith) (omega arith))

-- a row with one more behind it, as the row with that default
with_last : (ws : List ℕ) (j : ℕ) → j < length ws + 1 → get_or (ws ++ 1 ∷ []) j 0 ≡ get_or ws j 1
with_last [] zero h = refl
with_last [] (suc j) h = absurd (omega arith)
with_last (w ∷ ws) zero h = refl
with_last (w ∷ ws) (suc j) h = with_last ws j (omega arith)

pub packed_eight :
    (ws vs : List ℕ) (eights : List (List ℕ)) (k y : ℕ) → ws ≡ vs → length ws ≡ 95 → eights ≡ first_chunks 8 (length (ws ++ 1 ∷ []) / 8) (ws ++ 1 ∷ []) → k < 12 →
    y ≡ from_le_bytes w64 (get_or eights k []) → y ≡ packed (λ c. get_or vs (c - 32) 1) (32 + 8 * k)
unfolding packed
packed_eight ws vs eights k y same long e h v =
    let n : length (ws ++ 1 ∷ []) / 8 ≡ 12 = ap (λ m. m / 8) (length-append ws (1 ∷ []) ∙ ap (λ m. m + 1) long) in
    let bs : List ℕ = get_or eights k [] in
    let at : (i : ℕ) → i < 8 → get_or bs i 0 ≡ get_or vs (32 + 8 * k + i - 32) 1 = λ i l.
    ap (λ es. get_or (get_or es k []) i 0) (e ∙ ap (λ m. first_chunks 8 m (ws ++ 1 ∷ [])) n)
    ∙ (chunk_at 8 12 [] (ws ++ 1 ∷ []) k i h l ∙ (with_last ws (8 * k + i) (omega arith) ∙ ap₂ (λ w j. get_or w j 1) same (omega arith))) in
    let sum : y ≡ get_or bs 0 0 + get_or bs 1 0 * 256 + get_or bs 2 0 * 65536 + get_or bs 3 0 * 16777216 + get_or bs 4 0 * 4294967296 + get_or bs 5 0 * 1099511627776 + get_or bs 6 0 * 281474976710656 + get_or bs 7 0 * 72057594037927936 = v in
    let first : get_or bs 0 0 ≡ get_or vs (32 + 8 * k - 32) 1 = at 0 (lit< tt) ∙ ap (λ j. get_or vs j 1) (omega arith) in
    omega (arith, at 1 (lit< tt), at 2 (lit< tt), at 3 (lit< tt), at 4 (lit< tt), at 5 (lit< tt), at 6 (lit< tt), at 7 (lit< tt))
