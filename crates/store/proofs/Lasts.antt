-- A row in which some elements go, and others come behind what is left.
use Rattle.std.proofs.Common.{◌≡◌, ℕ, ◌+◌, ◌-◌, ◌≤◌, max, List, ◌++◌, length, take, drop, replicate, sym, refl, ap, ap₂, ◌∙◌, arith}
use borrow.Rule.Slice.PartMut.{put_mid}
use Rattle.std.specs.List.{copy_within}
use Rattle.std.proofs.lemmas.List.{append_assoc, length-append, length-take-le, length-drop, take_at, drop_at, drop-drop, take-take, take-append-le}
use Rattle.store.specs.Splices.{replaced_last}

module _ {X : Type 0} (blank : X) (xs new zs ys : List X) (start stop end m : ℕ) where
  -- so many are left behind what goes, and where they end, and the new ones
  abbrev t : ℕ
  t = end - stop

  abbrev behind : ℕ
  behind = start + t

  abbrev left : ℕ
  left = behind + length new

  module _ (forward : start ≤ stop) (order : stop ≤ end) (there : end ≤ length xs) (fits : start + length new + (end - stop) ≤ length xs) (shifted : ys ≡ copy_within xs stop end start) (most : m ≡ max left end) where
    abbrev head : List X
    head = take start xs ++ take t (drop stop xs)

    length_head : length head ≡ behind
    length_head =
        length-append (take start xs) (take (end - stop) (drop stop xs))
        ∙ ap₂ ◌+◌ (length-take-le start xs (omega arith)) (length-take-le (end - stop) (drop stop xs) (omega (arith, length-drop stop xs)))

    moved : ys ≡ head ++ drop behind xs
    moved = shifted

    length_moved : length ys ≡ length xs
    length_moved = ap length moved ∙ length-append head (drop behind xs) ∙ omega (arith, length_head, length-drop behind xs)

    drop_moved : drop left ys ≡ drop left xs
    drop_moved =
        sym (drop-drop (length new) behind ys)
        ∙ (ap (λ ws. drop (length new) (drop behind ws)) moved ∙ (ap (drop (length new)) (drop_at head (drop behind xs) behind length_head) ∙ drop-drop (length new) behind xs))

    pub put_last_at :
        {fill news : List X} → fill ≡ replicate (length (take (m - left) (drop left ys))) blank → news ≡ new →
        put_mid behind (left - behind) (put_mid left (m - left) ys fill) news ≡ replaced_last blank xs start (stop - start) (end - stop) new
    put_last_at {fill} {news} wiped copied =
        let n : ℕ = length new in
        let l : ℕ = left in
        let k : ℕ = m - l in
        let rest : List X = fill ++ drop k (drop l ys) in
        let inner : List X = take l ys ++ rest in
        let long : length (take l ys) ≡ l = length-take-le l ys (omega (arith, length_moved)) in
        let front : take behind inner ≡ head =
        take-append-le behind (take l ys) rest (omega arith) ∙ (take-take behind l ys (omega arith) ∙ (ap (take behind) moved ∙ take_at head (drop behind xs) behind length_head)) in
        let back : drop (l - behind) (drop behind inner) ≡ rest =
        drop-drop (l - behind) behind inner ∙ (ap (λ j. drop j inner) (omega arith) ∙ drop_at (take l ys) rest l long) in
        let few : k ≤ length (drop l ys) = omega (arith, length_moved, length-drop l ys) in
        let zeros : fill ≡ replicate (stop - start - n) blank = wiped ∙ ap (λ j. replicate j blank) (length-take-le k (drop l ys) few ∙ omega arith) in
        let last : drop k (drop l ys) ≡ drop (start + max (stop - start) n + (end - stop)) xs = ap (drop k) drop_moved ∙ (drop-drop k l xs ∙ ap (λ j. drop j xs) (omega arith)) in
        let gone : start + (stop - start) ≡ stop = omega arith in
        ap₂ (λ (hs vs : List X). hs ++ (news ++ vs)) front back
        ∙ (ap₂ (λ (us vs : List X). head ++ (us ++ vs)) copied (ap₂ ◌++◌ zeros last)
        ∙ (append_assoc (take start xs) (take (end - stop) (drop stop xs)) _ ∙ ap (λ j. take start xs ++ (take (end - stop) (drop j xs) ++ (new ++ (replicate (stop - start - n) blank ++ drop (start + max (stop - start) n + (end - stop)) xs)))) (sym gone)))

pub put_last_is :
    {X : Type 0} (blank : X) (xs new zs ys : List X) (start stop end m : ℕ) {news : List X} → start ≤ stop → stop ≤ end → end ≤ length xs → start + length new + (end - stop) ≤ length xs →
    ys ≡ copy_within xs stop end start → m ≡ max (start + (end - stop) + length new) end → zs ≡ replicate (length (take (m - (start + (end - stop) + length new)) (drop (start + (end - stop) + length new) ys))) blank → news ≡ new →
    put_mid (start + (end - stop)) (start + (end - stop) + length new - (start + (end - stop))) (put_mid (start + (end - stop) + length new) (m - (start + (end - stop) + length new)) ys zs) news
    ≡ replaced_last blank xs start (stop - start) (end - stop) new
put_last_is blank xs new zs ys start stop end m forward order there fits shifted most wiped copied =
    put_last_at blank xs new zs ys start stop end m forward order there fits shifted most wiped copied
