-- What stands behind a piece is shorter than the text, so the steps allowed don't matter once they are as many as the bytes.
use Rattle.std.proofs.Common.{◌≡◌, ℕ, zero, suc, ◌<◌, ◌≤◌, ◌||◌, eqb, ltb, List, [], ◌∷◌, length, take, drop, IfOk, Ok, Err, codes, Result, refl, ap, arith, length-drop}
use Rattle.std.specs.Char.{is_ascii_digit}
use Rattle.std.specs.List.{prefix_len}
use Rattle.std.specs.Str.{bytes_eq}
use Rattle.std.proofs.lemmas.Bool.{cond_both}
use Rattle.notation.specs.declared.fault.Fault.{Fault}
use Rattle.notation.specs.declared.piece.Piece.{Piece}
use Rattle.notation.specs.declared.piece.Piece.TheVariants.{Mark, PageOf, Command}
use Rattle.notation.specs.Numbers.{value_of, ended_by, number_to}
use Rattle.notation.specs.Pieces.{form_of, depth_after, numbered, worded, escaped, first_piece}
use Rattle.notation.specs.Noted.{all_closed, piece_then, noted_in, noted_from}
use Rattle.notation.specs.Steps.{then, in_front}

-- what is left has n bytes at most
abbrev Leaves : {A : Type 0} → ℕ → Result (A × List ℕ) Fault → Type 0
Leaves n r = IfOk r (λ p. length p.1 ≤ n)

ended_by_leaves : (end n m : ℕ) (bs : List ℕ) → length bs ≤ suc m → Leaves m (ended_by end n bs)
ended_by_leaves end n m [] h = tt
ended_by_leaves end n m (b ∷ bs) h = cond_both (eqb b end) _ _ (Leaves m) (λ _. cond_both (ltb n 256) _ _ (Leaves m) (λ _. omega arith) (λ _. tt)) (λ _. tt)

number_to_leaves : (end n : ℕ) (bs : List ℕ) → length bs ≤ suc n → Leaves n (number_to end bs)
unfolding number_to
number_to_leaves end n bs h =
    let len = prefix_len is_ascii_digit bs in
    cond_both (eqb len 0) _ _ (Leaves n) (λ _. tt) (λ _. ended_by_leaves end (value_of (take len bs)) n (drop len bs) (omega (arith, length-drop len bs)))

numbered_leaves : (make : ℕ → Piece) (end n : ℕ) (bs : List ℕ) → length bs ≤ suc n → Leaves n (numbered make end bs)
numbered_leaves make end n bs h = go (number_to end bs) (number_to_leaves end n bs h)
  where
    go : (r : Result (ℕ × List ℕ) Fault) → Leaves n r → Leaves n (then r (λ p. Ok (make p.0, p.1)))
    go (Ok p) l = l
    go (Err e) l = tt

drop_leaves : (k n : ℕ) (bs : List ℕ) → length bs ≤ suc n → 0 < k → length (drop k bs) ≤ n
drop_leaves k n bs h some = omega (arith, length-drop k bs)

worded_leaves : (n : ℕ) (bs : List ℕ) → length bs ≤ suc n → Leaves n (worded bs)
unfolding worded
worded_leaves n bs h =
    cond_both (bytes_eq (take 5 bs) (codes "note{")) _ _ (Leaves n) (λ _. drop_leaves 5 n bs h (omega arith))
    (λ _. cond_both (bytes_eq (take 5 bs) (codes "given")) _ _ (Leaves n) (λ _. drop_leaves 5 n bs h (omega arith)) (λ _. numbered_leaves Command 123 n bs h))

escaped_leaves : (bs : List ℕ) → Leaves (length bs) (escaped bs)
unfolding escaped
escaped_leaves [] = tt
escaped_leaves (b ∷ bs) =
    let n = suc (length bs) in
    cond_both (eqb b 92 || (eqb b 123 || eqb b 125)) _ _ (Leaves n) (λ _. omega arith)
    (λ _. cond_both (eqb b 109) _ _ (Leaves n) (λ _. numbered_leaves Mark 59 n bs (omega arith))
    (λ _. cond_both (eqb b 112) _ _ (Leaves n) (λ _. numbered_leaves PageOf 59 n bs (omega arith)) (λ _. worded_leaves n (b ∷ bs) (omega arith))))

pub first_piece_leaves : (b : ℕ) (bs : List ℕ) → Leaves (length bs) (first_piece b bs)
unfolding first_piece
first_piece_leaves b bs =
    let n = length bs in
    cond_both (eqb b 32) _ _ (Leaves n) (λ _. omega arith)
    (λ _. cond_both (eqb b 92) _ _ (Leaves n) (λ _. escaped_leaves bs)
    (λ _. cond_both (eqb b 123) _ _ (Leaves n) (λ _. tt)
    (λ _. cond_both (eqb b 125) _ _ (Leaves n) (λ _. omega arith) (λ _. omega arith))))

abbrev Alike : ℕ → (ℕ → List ℕ → Result (List ℕ) Fault) → (ℕ → List ℕ → Result (List ℕ) Fault) → Type 0
Alike n go_on go_on' = (depth : ℕ) (bs : List ℕ) → length bs ≤ n → go_on depth bs ≡ go_on' depth bs

then_alike :
    (n : ℕ) (go_on go_on' : ℕ → List ℕ → Result (List ℕ) Fault) (depth : ℕ) (r : Result (Piece × List ℕ) Fault) → Alike n go_on go_on' → Leaves n r →
    then r (piece_then go_on depth) ≡ then r (piece_then go_on' depth)
then_alike n go_on go_on' depth (Err e) same l = refl
then_alike n go_on go_on' depth (Ok p) same l = go (depth_after p.0 depth)
  where
    go : (r : Result ℕ Fault) → then r (λ d. in_front (form_of p.0) (go_on d p.1)) ≡ then r (λ d. in_front (form_of p.0) (go_on' d p.1))
    go (Ok d) = ap (in_front (form_of p.0)) (same d p.1 l)
    go (Err e) = refl

noted_in_alike : (n m depth : ℕ) (bs : List ℕ) → length bs ≤ n → length bs ≤ m → noted_in n depth bs ≡ noted_in m depth bs
unfolding noted_in
noted_in_alike n m depth [] h k = refl
noted_in_alike zero m depth (b ∷ bs) h k = absurd (omega arith)
noted_in_alike (suc n) zero depth (b ∷ bs) h k = absurd (omega arith)
noted_in_alike (suc n) (suc m) depth (b ∷ bs) h k =
    then_alike (length bs) (noted_in n) (noted_in m) depth (first_piece b bs) (λ d cs l. noted_in_alike n m d cs (omega arith) (omega arith)) (first_piece_leaves b bs)

pub noted_from_step : (depth b : ℕ) (bs : List ℕ) → noted_from depth (b ∷ bs) ≡ then (first_piece b bs) (piece_then noted_from depth)
unfolding noted_in
noted_from_step depth b bs =
    then_alike (length bs) (noted_in (length bs)) noted_from depth (first_piece b bs) (λ d cs l. noted_in_alike (length bs) (length cs) d cs l (omega arith)) (first_piece_leaves b bs)

pub noted_from_none : (depth : ℕ) → noted_from depth [] ≡ all_closed depth
unfolding noted_in
noted_from_none depth = refl
