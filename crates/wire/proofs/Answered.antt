-- Answers as bytes: how long letters are, and that they are written in one way only.
use Rattle.std.proofs.Common.{◌≡◌, ℕ, ◌*◌, List, [], ◌∷◌, ◌++◌, length, get_or, drop, refl, ap, ap₂, arith}
use Rattle.meaning.specs.Lines.{Placed}
use Rattle.meaning.specs.Calls.{done, refused, rows, numbers}
use Rattle.wire.specs.Bytes.{four, letters_bytes, row_bytes, rows_bytes, answer_bytes}
use Rattle.wire.specs.Laws.{WrittenOnce}
use Rattle.wire.proofs.Fields.{two_and_rest, four_and_rest}

pub length_letters_bytes : (ps : List Placed) → length (letters_bytes ps) ≡ 5 * length ps
unfolding letters_bytes
length_letters_bytes [] = refl
length_letters_bytes (p ∷ ps) = omega (arith, length_letters_bytes ps)

same_placed : (p q : Placed) → p.at ≡ q.at → p.what ≡ q.what → p ≡ q
same_placed p q at_same what_same = λ i. record { at = at_same i; what = what_same i }

-- as many letters, and then anything, can be told apart
pub letters_and_rest : (ps qs : List Placed) (xs ys : List ℕ) → length ps ≡ length qs → letters_bytes ps ++ xs ≡ letters_bytes qs ++ ys → (ps ≡ qs) × (xs ≡ ys)
unfolding letters_bytes
letters_and_rest [] [] xs ys n e = (refl, e)
letters_and_rest [] (q ∷ qs) xs ys n e = absurd (omega arith)
letters_and_rest (p ∷ ps) [] xs ys n e = absurd (omega arith)
letters_and_rest (p ∷ ps) (q ∷ qs) xs ys n e =
    let place : (p.at ≡ q.at) × (letters_bytes ps ++ xs ≡ letters_bytes qs ++ ys) =
    four_and_rest p.at q.at (letters_bytes ps ++ xs) (letters_bytes qs ++ ys) (ap (drop 1) e) in
    let others : (ps ≡ qs) × (xs ≡ ys) = letters_and_rest ps qs xs ys (omega arith) place.1 in
    (ap₂ (λ r rs. r ∷ rs) (same_placed p q place.0 (ap (λ bs. get_or bs 0 0) e)) others.0, others.1)

pub row_and_rest : (ps qs : List Placed) (xs ys : List ℕ) → row_bytes ps ++ xs ≡ row_bytes qs ++ ys → (ps ≡ qs) × (xs ≡ ys)
row_and_rest ps qs xs ys e =
    let size : (length ps ≡ length qs) × (letters_bytes ps ++ xs ≡ letters_bytes qs ++ ys) = two_and_rest (length ps) (length qs) _ _ e in
    letters_and_rest ps qs xs ys size.0 size.1

pub same_rows : (rs ss : List (List Placed)) → length rs ≡ length ss → rows_bytes rs ≡ rows_bytes ss → rs ≡ ss
unfolding rows_bytes
same_rows [] [] n e = refl
same_rows [] (s ∷ ss) n e = absurd (omega arith)
same_rows (r ∷ rs) [] n e = absurd (omega arith)
same_rows (r ∷ rs) (s ∷ ss) n e =
    let first : (r ≡ s) × (rows_bytes rs ≡ rows_bytes ss) = row_and_rest r s (rows_bytes rs) (rows_bytes ss) e in
    ap₂ (λ t ts. t ∷ ts) first.0 (same_rows rs ss (omega arith) first.1)

pub written_once : WrittenOnce
unfolding answer_bytes
written_once done done e = refl
written_once done (refused m q) e = cc
written_once done (rows ss) e = cc
written_once done (numbers c d) e = cc
written_once (refused n p) done e = cc
written_once (refused n p) (refused m q) e = ap₂ refused (ap (λ bs. get_or bs 1 0) e) (four_and_rest p q [] [] (ap (drop 2) e)).0
written_once (refused n p) (rows ss) e = cc
written_once (refused n p) (numbers c d) e = cc
written_once (rows rs) done e = cc
written_once (rows rs) (refused m q) e = cc
written_once (rows rs) (rows ss) e = ap rows (same_rows rs ss (ap (λ bs. get_or bs 1 0) e) (ap (drop 2) e))
written_once (rows rs) (numbers c d) e = cc
written_once (numbers a b) done e = cc
written_once (numbers a b) (refused m q) e = cc
written_once (numbers a b) (rows ss) e = cc
written_once (numbers a b) (numbers c d) e =
    let first : (a ≡ c) × (four b ≡ four d) = four_and_rest a c (four b) (four d) (ap (drop 1) e) in
    ap₂ numbers first.0 (four_and_rest b d [] [] first.1).0
