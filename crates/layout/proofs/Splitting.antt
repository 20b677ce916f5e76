-- The words of atoms have no more letters than there are numbers.
use Rattle.std.proofs.Common.{ℕ, zero, suc, ◌+◌, ◌-◌, ◌≤◌, leb, List, [], ◌∷◌, ◌++◌, length, take, drop, arith}
use Rattle.std.proofs.lemmas.List.{length_push, length-drop}
use Rattle.meaning.specs.Text.{Atom, ch, gap, tag, foot}
use Rattle.meaning.specs.Lines.{Word, nothing_yet, is_blank, split}
use Rattle.meaning.proofs.Picks.{pick_both}
use Rattle.words.specs.Atoms.{atom_at, decoded_in, decoded}
use Rattle.layout.specs.Rows.{letters_in}

pub split_letters_few : (xs : List Atom) (w : Word) → letters_in (split xs w) ≤ length w.letters + length xs
unfolding split letters_in
split_letters_few [] w = pick_both (is_blank w) [] (w ∷ []) (λ ws. letters_in ws ≤ length w.letters + 0) (λ _. omega arith) (λ _. omega arith)
split_letters_few (gap ∷ xs) w =
    let rest = split_letters_few xs nothing_yet in
    pick_both (is_blank w) (split xs nothing_yet) (w ∷ split xs nothing_yet) (λ ws. letters_in ws ≤ length w.letters + suc (length xs)) (λ _. omega (arith, rest)) (λ _. omega (arith, rest))
split_letters_few (ch c ∷ xs) w = omega (arith, split_letters_few xs (record { letters = w.letters ++ (c ∷ []); tags = w.tags; feet = w.feet }), length_push w.letters c)
split_letters_few (tag l ∷ xs) w = omega (arith, split_letters_few xs (record { letters = w.letters; tags = w.tags ++ (l ∷ []); feet = w.feet }))
split_letters_few (foot f ∷ xs) w = omega (arith, split_letters_few xs (record { letters = w.letters; tags = w.tags; feet = w.feet ++ (f ∷ []) }))

few_in : (k : ℕ) (ns : List ℕ) → length (decoded_in k ns) ≤ length ns
unfolding decoded_in
few_in zero ns = omega arith
few_in (suc k) [] = omega arith
few_in (suc k) (n ∷ ns) =
    pick_both (leb (n - 512) (length ns)) (atom_at n (take (n - 512) ns) ∷ decoded_in k (drop (n - 512) ns)) [] (λ (xs : List Atom). length xs ≤ length (n ∷ ns))
    (λ _. omega (arith, few_in k (drop (n - 512) ns), length-drop (n - 512) ns)) (λ _. omega arith)

pub decoded_few : (ns : List ℕ) → length (decoded ns) ≤ length ns
decoded_few ns = few_in (length ns) ns
