-- Rows written over the start of a part that begins in the middle.
use Rattle.std.proofs.Common.{◌≡◌, ℕ, ◌-◌, List, [], ◌++◌, length, take, drop, ap, ◌∙◌, arith}
use borrow.Rule.Slice.PartMut.{put_mid}
use Rattle.std.proofs.lemmas.List.{append-nil, length-drop, drop_all, take_rest}
use Rattle.wire.specs.Bytes.{over}

pub over_part : (a : ℕ) (bs xs ys : List ℕ) → ys ≡ over bs (take (length xs - a) (drop a xs)) → put_mid a (length xs - a) xs ys ≡ take a xs ++ over bs (drop a xs)
over_part a bs xs ys e =
    let none_behind : drop (length xs - a) (drop a xs) ≡ [] = drop_all (length xs - a) (drop a xs) (rw length-drop (omega arith)) in
    let written : ys ≡ over bs (drop a xs) = e ∙ ap (over bs) (take_rest xs a) in
    ap (λ t. take a xs ++ (ys ++ t)) none_behind ∙ (ap (λ t. take a xs ++ t) (append-nil ys) ∙ ap (λ t. take a xs ++ t) written)
