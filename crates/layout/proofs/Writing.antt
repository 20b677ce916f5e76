-- Rows written into a part of another row, one behind the other.
--   written   a row written from a place on
use Rattle.std.proofs.Common.{◌≡◌, ℕ, ◌+◌, ◌-◌, ◌≤◌, List, [], ◌++◌, length, take, drop, sym, ap, ◌∙◌, ap₂, zero-add, arith}
use borrow.Rule.Slice.PartMut.{put_mid}
use Rattle.std.proofs.lemmas.List.{append_assoc, length-append, length-drop, length-take-le, take-append-drop, take_at, drop_at, drop-drop}
use Rattle.wire.specs.Bytes.{over}
use Rattle.wire.proofs.Overs.{over_part}

abbrev pub written : ℕ → List ℕ → List ℕ → List ℕ
written at xs out = take at out ++ over xs (drop at out)

pub written_none : (at : ℕ) (out : List ℕ) → written at [] out ≡ out
written_none at out = take-append-drop at out

-- what a callee leaves that writes from the start of the part it is lent
pub written_part :
    (at : ℕ) (xs out part : List ℕ) → part ≡ over xs (take (length out - at) (drop at out)) →
    put_mid at (length out - at) out part ≡ written at xs out
written_part at xs out part e = over_part at xs out part e

pub length_over : (xs out : List ℕ) → length xs ≤ length out → length (over xs out) ≡ length out
length_over xs out fits = omega (arith, fits, length-append xs (drop (length xs) out), length-drop (length xs) out)

pub length_written : (at : ℕ) (xs out : List ℕ) → at + length xs ≤ length out → length (written at xs out) ≡ length out
length_written at xs out fits =
    let front : length (take at out) ≡ at = length-take-le at out (omega (arith, fits)) in
    let back : length (drop at out) ≡ length out - at = length-drop at out in
    let all : length (over xs (drop at out)) ≡ length (drop at out) = length_over xs (drop at out) (omega (arith, fits, back)) in
    omega (arith, fits, front, back, all, length-append (take at out) (over xs (drop at out)))

-- one row behind the other is both in one
pub written_more :
    (out : List ℕ) (at : ℕ) (xs ys : List ℕ) → at + length xs ≤ length out →
    written (at + length xs) ys (written at xs out) ≡ written at (xs ++ ys) out
written_more out at xs ys fits =
    let front : length (take at out) ≡ at = length-take-le at out (omega (arith, fits)) in
    let behind : List ℕ = drop (length xs) (drop at out) in
    let regroup : written at xs out ≡ (take at out ++ xs) ++ behind = sym (append_assoc (take at out) xs behind) in
    let so_far : length (take at out ++ xs) ≡ at + length xs = omega (arith, front, length-append (take at out) xs) in
    let kept : take (at + length xs) (written at xs out) ≡ take at out ++ xs =
    ap (take (at + length xs)) regroup ∙ take_at (take at out ++ xs) behind (at + length xs) so_far
    in
    let left : drop (at + length xs) (written at xs out) ≡ behind =
    ap (drop (at + length xs)) regroup ∙ drop_at (take at out ++ xs) behind (at + length xs) so_far
    in
    let rest : drop (length ys) behind ≡ drop (length (xs ++ ys)) (drop at out) =
    drop-drop (length ys) (length xs) (drop at out) ∙ ap (λ (n : ℕ). drop n (drop at out)) (sym (length-append xs ys))
    in
    ap₂ (λ (p q : List ℕ). p ++ over ys q) kept left
    ∙ append_assoc (take at out) xs (ys ++ drop (length ys) behind)
    ∙ ap (λ (q : List ℕ). take at out ++ q) (sym (append_assoc xs ys (drop (length ys) behind)) ∙ ap (λ (q : List ℕ). (xs ++ ys) ++ q) rest)

pub over_more : (xs ys out : List ℕ) → length xs ≤ length out → written (length xs) ys (over xs out) ≡ over (xs ++ ys) out
over_more xs ys out fits = ap (λ (n : ℕ). written n ys (over xs out)) (sym (zero-add (length xs))) ∙ written_more out 0 xs ys (omega (arith, fits))
