-- Numbers of a row as atoms, and back.
use Rattle.std.proofs.Common.{◌≡◌, ℕ, zero, suc, ◌+◌, ◌-◌, ◌<◌, ◌≤◌, true, not, eqb, ltb, leb, List, [], ◌∷◌, ◌++◌, length, take, drop, sym, refl, ap, ◌∙◌, ap₂, inl, inr, arith}
use Rattle.std.proofs.lemmas.List.{append-nil, append_assoc, length-append, length-drop, length-take-le, take_at, drop_at, take-append-drop}
use Rattle.std.proofs.lemmas.Bool.{ltb-true, lt-ltb, le-ltb, le-leb, lt-leb, eq-eqb, ne_eqb, and_parts, and_from, not-true, cases_lt, cases_eq}
use Rattle.meaning.specs.Text.{pick, Atom, ch, gap, tag, foot}
use Rattle.meaning.proofs.Picks.{pick_true, pick_false}
use Rattle.words.specs.Atoms.{numbers_of, numbers, atom_at, decoded_in, decoded, is_letter, is_standing, all_standing, is_plain, all_plain, FirstAtom}

-- with as many steps as there are numbers, or more
enough : (j k : ℕ) (ns : List ℕ) → length ns ≤ j → length ns ≤ k → decoded_in j ns ≡ decoded_in k ns
unfolding decoded_in
enough zero zero ns h l = refl
enough zero (suc k) [] h l = refl
enough zero (suc k) (n ∷ ns) h l = absurd (omega arith)
enough (suc j) zero [] h l = refl
enough (suc j) zero (n ∷ ns) h l = absurd (omega arith)
enough (suc j) (suc k) [] h l = refl
enough (suc j) (suc k) (n ∷ ns) h l =
    ap (λ (xs : List Atom). pick (leb (n - 512) (length ns)) (atom_at n (take (n - 512) ns) ∷ xs) [])
    (enough j k (drop (n - 512) ns) (omega (arith, length-drop (n - 512) ns)) (omega (arith, length-drop (n - 512) ns)))

decoded_first : (n : ℕ) (ns : List ℕ) → n - 512 ≤ length ns → decoded (n ∷ ns) ≡ atom_at n (take (n - 512) ns) ∷ decoded (drop (n - 512) ns)
unfolding decoded_in
decoded_first n ns h =
    pick_true (leb (n - 512) (length ns)) _ [] (le-leb (n - 512) (length ns) h)
    ∙ ap (λ (xs : List Atom). atom_at n (take (n - 512) ns) ∷ xs)
    (enough (length ns) (length (drop (n - 512) ns)) (drop (n - 512) ns) (omega (arith, length-drop (n - 512) ns)) (omega arith))

pub decoded_stops : (n : ℕ) (ns : List ℕ) → length ns < n - 512 → decoded (n ∷ ns) ≡ []
unfolding decoded_in
decoded_stops n ns h = pick_false (leb (n - 512) (length ns)) _ [] (lt-leb (n - 512) (length ns) h)

-- which atom a number begins
at_gap : (n : ℕ) (text : List ℕ) → n ≡ 32 → atom_at n text ≡ gap
at_gap n text e = pick_true (eqb n 32) gap _ (eq-eqb n 32 e)

at_letter : (n : ℕ) (text : List ℕ) → is_letter n ≡ true → atom_at n text ≡ ch n
at_letter n text e =
    let p = and_parts (ltb n 256) (not (eqb n 32)) e in
    pick_false (eqb n 32) _ _ (not-true (eqb n 32) p.1) ∙ pick_true (ltb n 256) _ _ p.0

at_mark : (n : ℕ) (text : List ℕ) → 256 ≤ n → n < 512 → atom_at n text ≡ tag (n - 256)
at_mark n text h l =
    pick_false (eqb n 32) _ _ (ne_eqb n 32 (λ e. omega arith)) ∙ pick_false (ltb n 256) _ _ (le-ltb n 256 h) ∙ pick_true (ltb n 512) _ _ (lt-ltb n 512 l)

at_note : (n : ℕ) (text : List ℕ) → 512 ≤ n → atom_at n text ≡ foot text
at_note n text h =
    pick_false (eqb n 32) _ _ (ne_eqb n 32 (λ e. omega arith)) ∙ pick_false (ltb n 256) _ _ (le-ltb n 256 (omega arith))
    ∙ pick_false (ltb n 512) _ _ (le-ltb n 512 h)

-- the first atom, taken off
module _ (n : ℕ) (ns : List ℕ) where
  alone : (a : Atom) → n < 512 → atom_at n [] ≡ a → numbers_of a ≡ n ∷ [] → is_standing a ≡ true → FirstAtom (n ∷ ns) a ns
  alone a l at form standing =
      let none : n - 512 ≡ 0 = omega arith in
      record {
        atoms = decoded_first n ns (omega arith) ∙ ap (λ (k : ℕ). atom_at n (take k ns) ∷ decoded (drop k ns)) none ∙ ap (λ (b : Atom). b ∷ decoded ns) at;
        form = ap (λ (xs : List ℕ). xs ++ ns) (sym form);
        standing = standing;
      }

  small : n < 512 → FirstAtom (n ∷ ns) (atom_at n []) ns
  small l =
      elim (cases_eq n 32) [
        | inl e ↦ rw (at_gap n [] e) (alone gap l (at_gap n [] e) (ap (λ (k : ℕ). k ∷ []) (sym e)) refl)
        | inr e ↦ elim (cases_lt n 256) [
          | inl m ↦
              let is : is_letter n ≡ true = and_from (ltb n 256) (not (eqb n 32)) (lt-ltb n 256 m) (ap not (ne_eqb n 32 e)) in
              rw (at_letter n [] is) (alone (ch n) l (at_letter n [] is) refl is)
          | inr m ↦ rw (at_mark n [] m l) (alone (tag (n - 256)) l (at_mark n [] m l) (ap (λ (k : ℕ). k ∷ []) (omega arith)) (lt-ltb (n - 256) 256 (omega arith)))
        ]
      ]

  noted : 512 ≤ n → n - 512 ≤ length ns → FirstAtom (n ∷ ns) (atom_at n (take (n - 512) ns)) (drop (n - 512) ns)
  noted l room =
      let text : List ℕ = take (n - 512) ns in
      let long : 512 + length text ≡ n = omega (arith, length-take-le (n - 512) ns room) in
      record {
        atoms = decoded_first n ns room;
        form = rw (at_note n text l) (ap₂ (λ (k : ℕ) (xs : List ℕ). k ∷ xs) (sym long) (sym (take-append-drop (n - 512) ns)));
        standing = ap is_standing (at_note n text l);
      }

  pub first_atom : n - 512 ≤ length ns → FirstAtom (n ∷ ns) (atom_at n (take (n - 512) ns)) (drop (n - 512) ns)
  first_atom room =
      elim (cases_lt n 512) [
        | inl l ↦ let none : n - 512 ≡ 0 = omega arith in rw none (small l)
        | inr l ↦ noted l room
      ]

-- and put on again
decoded_one : (n : ℕ) (ns : List ℕ) (a : Atom) → n < 512 → atom_at n [] ≡ a → decoded (n ∷ ns) ≡ a ∷ decoded ns
decoded_one n ns a l at =
    let none : n - 512 ≡ 0 = omega arith in
    decoded_first n ns (omega arith) ∙ ap (λ (k : ℕ). atom_at n (take k ns) ∷ decoded (drop k ns)) none ∙ ap (λ (b : Atom). b ∷ decoded ns) at

pub decoded_more : (x : Atom) (ns : List ℕ) → is_standing x ≡ true → decoded (numbers_of x ++ ns) ≡ x ∷ decoded ns
decoded_more (ch c) ns e = decoded_one c ns (ch c) (omega (arith, ltb-true c 256 (and_parts (ltb c 256) (not (eqb c 32)) e).0)) (at_letter c [] e)
decoded_more gap ns e = decoded_one 32 ns gap (omega arith) refl
decoded_more (tag l) ns e =
    let back : 256 + l - 256 ≡ l = omega arith in
    decoded_one (256 + l) ns (tag l) (omega (arith, ltb-true l 256 e)) (at_mark (256 + l) [] (omega arith) (omega (arith, ltb-true l 256 e)) ∙ ap tag back)
decoded_more (foot f) ns e =
    let many : 512 + length f - 512 ≡ length f = omega arith in
    decoded_first (512 + length f) (f ++ ns) (omega (arith, length-append f ns))
    ∙ ap₂ (λ (a : Atom) (xs : List Atom). a ∷ xs)
    (at_note (512 + length f) _ (omega arith) ∙ ap foot (ap (λ (k : ℕ). take k (f ++ ns)) many ∙ take_at f ns (length f) refl))
    (ap decoded (ap (λ (k : ℕ). drop k (f ++ ns)) many ∙ drop_at f ns (length f) refl))

pub decoded_numbers : (xs : List Atom) (ns : List ℕ) → all_standing xs ≡ true → decoded (numbers xs ++ ns) ≡ xs ++ decoded ns
unfolding numbers all_standing
decoded_numbers [] ns e = refl
decoded_numbers (x ∷ xs) ns e =
    let p = and_parts (is_standing x) (all_standing xs) e in
    ap decoded (append_assoc (numbers_of x) (numbers xs) ns) ∙ decoded_more x (numbers xs ++ ns) p.0 ∙ ap (λ (ys : List Atom). x ∷ ys) (decoded_numbers xs ns p.1)

pub decoded_all : (xs : List Atom) → all_standing xs ≡ true → decoded (numbers xs) ≡ xs
unfolding decoded_in
decoded_all xs e = ap decoded (sym (append-nil (numbers xs))) ∙ decoded_numbers xs [] e ∙ append-nil xs

pub numbers_append : (xs ys : List Atom) → numbers (xs ++ ys) ≡ numbers xs ++ numbers ys
unfolding numbers
numbers_append [] ys = refl
numbers_append (x ∷ xs) ys = ap (λ (ns : List ℕ). numbers_of x ++ ns) (numbers_append xs ys) ∙ sym (append_assoc (numbers_of x) (numbers xs) (numbers ys))

pub standing_append : (xs ys : List Atom) → all_standing xs ≡ true → all_standing ys ≡ true → all_standing (xs ++ ys) ≡ true
unfolding all_standing
standing_append [] ys p q = q
standing_append (x ∷ xs) ys p q =
    let h = and_parts (is_standing x) (all_standing xs) p in
    and_from (is_standing x) (all_standing (xs ++ ys)) h.0 (standing_append xs ys h.1 q)

pub plain_append : (xs ys : List Atom) → all_plain xs ≡ true → all_plain ys ≡ true → all_plain (xs ++ ys) ≡ true
unfolding all_plain
plain_append [] ys p q = q
plain_append (x ∷ xs) ys p q =
    let h = and_parts (is_plain x) (all_plain xs) p in
    and_from (is_plain x) (all_plain (xs ++ ys)) h.0 (plain_append xs ys h.1 q)

pub plain_parts : (xs ys : List Atom) → all_plain (xs ++ ys) ≡ true → (all_plain xs ≡ true) × (all_plain ys ≡ true)
unfolding all_plain
plain_parts [] ys p = (refl, p)
plain_parts (x ∷ xs) ys p =
    let h = and_parts (is_plain x) (all_plain (xs ++ ys)) p in
    let q = plain_parts xs ys h.1 in
    (and_from (is_plain x) (all_plain xs) h.0 q.0, q.1)

-- what is read from numbers can be read again
stands_in : (k : ℕ) (ns : List ℕ) → all_standing (decoded_in k ns) ≡ true
unfolding decoded_in all_standing
stands_in zero ns = refl
stands_in (suc k) [] = refl
stands_in (suc k) (n ∷ ns) =
    elim (cases_lt (length ns) (n - 512)) [
      | inl l ↦ ap all_standing (pick_false (leb (n - 512) (length ns)) _ [] (lt-leb (n - 512) (length ns) l))
      | inr l ↦
          ap all_standing (pick_true (leb (n - 512) (length ns)) _ [] (le-leb (n - 512) (length ns) l))
          ∙ and_from (is_standing (atom_at n (take (n - 512) ns))) _ (first_atom n ns l).standing (stands_in k (drop (n - 512) ns))
    ]

pub decoded_stands : (ns : List ℕ) → all_standing (decoded ns) ≡ true
decoded_stands ns = stands_in (length ns) ns

-- plain atoms can be read back
plain_stands : (x : Atom) → is_plain x ≡ true → is_standing x ≡ true
plain_stands (ch c) e = e
plain_stands gap e = e
plain_stands (tag l) e = e
plain_stands (foot f) e = refl

pub all_plain_stand : (xs : List Atom) → all_plain xs ≡ true → all_standing xs ≡ true
unfolding all_plain all_standing
all_plain_stand [] e = refl
all_plain_stand (x ∷ xs) e =
    let h = and_parts (is_plain x) (all_plain xs) e in
    and_from (is_standing x) (all_standing xs) (plain_stands x h.0) (all_plain_stand xs h.1)

-- the first atom of a row, as the code takes it off
pub takes_first :
    {row ns text rest : List ℕ} {n k : ℕ} {a : Atom} → row ≡ n ∷ ns → k ≡ n - 512 → k ≤ length ns → text ≡ take k ns → rest ≡ drop k ns → a ≡ atom_at n text →
    FirstAtom row a rest
takes_first {row} {ns} {text} {rest} {n} {k} {a} e f l g h i =
    rw (e, i, g, h, f) (first_atom n ns (omega (arith, f)))

pub takes_none : {row ns : List ℕ} {n k : ℕ} → row ≡ n ∷ ns → k ≡ n - 512 → length ns < k → decoded row ≡ []
takes_none {row} {ns} {n} {k} e f l = rw e (decoded_stops n ns (omega (arith, f)))
