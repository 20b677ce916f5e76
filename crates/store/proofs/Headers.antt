-- The header, part by part.
use Rattle.std.proofs.Common.{◌≡◌, ℕ, zero, suc, ◌+◌, ◌-◌, ◌<◌, ◌≤◌, ◌&&◌, List, [], ◌∷◌, ◌++◌, length, set, get_or, take, drop, true, Some, None, sym, refl, ap, ap₂, ◌∙◌, arith, lit<}
use borrow.Rule.Slice.PartMut.{put_mid}
use Rattle.std.proofs.lemmas.List.{get_or-take, get_or-drop}
use Rattle.std.proofs.lemmas.Bool.{and_from}
use Rattle.meaning.specs.Text.{pick}
use Rattle.meaning.proofs.Picks.{pick_true, some_picked}
use Rattle.store.specs.Opened.{limits_in_range, page_in_range}
use Rattle.store.specs.Kept.{limits_at, limits_kept, unpacked, widths_at, looks_at, looks_kept, counts_at, definitions_at, kept_at}
use Rattle.store.specs.declared.kept.Counts.{Counts}
use Rattle.store.specs.declared.opening.Limits.{Limits}
use Rattle.store.specs.declared.opening.Looks.{Looks}
use Rattle.store.proofs.Looking.{unpacked_same}

-- three numbers written over a row from a place on
set_three : (xs : List ℕ) (at p s b : ℕ) → at + 3 ≤ length xs → take at xs ++ (p ∷ (s ∷ (b ∷ drop 3 (drop at xs)))) ≡ set (set (set xs at p) (suc at) s) (suc (suc at)) b
set_three [] at p s b h = absurd (omega arith)
set_three (x ∷ []) zero p s b h = absurd (omega arith)
set_three (x ∷ (y ∷ [])) zero p s b h = absurd (omega arith)
set_three (x ∷ (y ∷ (z ∷ xs))) zero p s b h = refl
set_three (x ∷ xs) (suc at) p s b h = ap (λ ys. x ∷ ys) (set_three xs at p s b (omega arith))

pub counts_put :
    (hs : List ℕ) (at end p s b : ℕ) {ns : List ℕ} → length hs ≡ 64 → at + 3 ≤ 64 → end ≡ at + 3 → ns ≡ p ∷ (s ∷ (b ∷ [])) →
    put_mid at (end - at) hs ns ≡ set (set (set hs at p) (at + 1) s) (at + 2) b
counts_put hs at end p s b long room stop written =
    let three : end - at ≡ 3 = omega arith in
    let one : suc at ≡ at + 1 = omega arith in
    let two : suc (suc at) ≡ at + 2 = omega arith in
    rw (written, three) (set_three hs at p s b (omega arith)) ∙ ap₂ (λ i j. set (set (set hs at p) i s) j b) one two

module _ (hs : List ℕ) where
  part_at : (n a i : ℕ) {ns : List ℕ} → ns ≡ take n (drop a hs) → i < n → get_or ns i 0 ≡ get_or hs (a + i) 0
  part_at n a i e h = ap (λ xs. get_or xs i 0) e ∙ (get_or-take n (drop a hs) i 0 h ∙ get_or-drop a hs i 0)

  -- three counts from a place on
  counts_by_part :
      (a : ℕ) {ns : List ℕ} {n : Counts} → ns ≡ take 3 (drop a hs) → n ≡ record { entries = get_or ns 0 0; size = get_or ns 1 0; bytes = get_or ns 2 0 } →
      n ≡ record { entries = get_or hs (a + 0) 0; size = get_or hs (a + 1) 0; bytes = get_or hs (a + 2) 0 }
  counts_by_part a e of_counts =
      let r₀ = part_at 3 a 0 e (lit< tt) in
      let r₁ = part_at 3 a 1 e (lit< tt) in
      let r₂ = part_at 3 a 2 e (lit< tt) in
      of_counts ∙ (λ i. record { entries = r₀ i; size = r₁ i; bytes = r₂ i })

  pub kept_by_parts :
      {ls page packed ns ms : List ℕ} {l : Limits} {g : Looks} {n m : Counts} →
      ls ≡ take 4 (drop 0 hs) → page ≡ take 2 (drop 10 hs) → packed ≡ take 12 (drop 12 hs) → ns ≡ take 3 (drop 4 hs) → ms ≡ take 3 (drop 7 hs) →
      Some l ≡ pick (limits_kept ls) (Some (limits_at ls)) None →
      Some g ≡ pick (page_in_range (get_or page 0 0) (get_or page 1 0)) (Some (record { widths = unpacked (λ i. get_or packed i 0); width = get_or page 0 0; rows = get_or page 1 0 })) None →
      n ≡ record { entries = get_or ns 0 0; size = get_or ns 1 0; bytes = get_or ns 2 0 } → m ≡ record { entries = get_or ms 0 0; size = get_or ms 1 0; bytes = get_or ms 2 0 } →
      Some (record { limits = l; looks = g; paragraphs = n; definitions = m }) ≡ pick (limits_kept hs && looks_kept hs) (Some (kept_at hs)) None
  kept_by_parts {ls} {page} {packed} {ns} {ms} {l} {g} {n} {m} a b c d e of_limits of_looks of_counts of_definitions =
      let p₀ = part_at 4 0 0 a (lit< tt) in
      let p₁ = part_at 4 0 1 a (lit< tt) in
      let p₂ = part_at 4 0 2 a (lit< tt) in
      let p₃ = part_at 4 0 3 a (lit< tt) in
      let limits : limits_at ls ≡ limits_at hs = λ i. record { paragraphs = p₀ i; tokens = p₁ i; definitions = p₂ i; bulk = p₃ i } in
      let q₀ = part_at 2 10 0 b (lit< tt) in
      let q₁ = part_at 2 10 1 b (lit< tt) in
      let widths = unpacked_same (λ i. get_or packed i 0) (λ i. get_or hs (12 + i) 0) (λ i h. part_at 12 12 i c h) in
      let some_limits = some_picked _ l _ of_limits in
      let some_looks = some_picked _ g _ of_looks in
      let limits_is : l ≡ limits_at hs = some_limits.1 ∙ limits in
      let looks_is : g ≡ looks_at hs = some_looks.1 ∙ (λ i. record { widths = widths i; width = q₀ i; rows = q₁ i }) in
      let counts_is : n ≡ counts_at hs = counts_by_part 4 d of_counts in
      let definitions_is : m ≡ definitions_at hs = counts_by_part 7 e of_definitions in
      let kept : limits_kept hs ≡ true = ap limits_in_range (sym limits) ∙ some_limits.0 in
      let page_kept : looks_kept hs ≡ true = (λ i. page_in_range (sym q₀ i) (sym q₁ i)) ∙ some_looks.0 in
      (λ i. Some (record { limits = limits_is i; looks = looks_is i; paragraphs = counts_is i; definitions = definitions_is i }))
      ∙ sym (pick_true (limits_kept hs && looks_kept hs) (Some (kept_at hs)) None (and_from _ _ kept page_kept))

pub widths_by_part : (rs : List ℕ) {hs packed ws : List ℕ} → hs ≡ take 64 rs → packed ≡ take 12 (drop 12 hs) → ws ≡ unpacked (λ i. get_or packed i 0) → ws ≡ widths_at rs
widths_by_part rs {hs} {packed} cut part given =
    given
    ∙ unpacked_same (λ i. get_or packed i 0) (λ i. get_or rs (12 + i) 0)
    (λ i h. part_at hs 12 12 i part h ∙ (ap (λ xs. get_or xs (12 + i) 0) cut ∙ get_or-take 64 rs (12 + i) 0 (omega arith)))
