-- Atoms parted into words one by one: the words that are done stand in their slots, and one may still grow.
use Rattle.std.proofs.Common.{◌≡◌, ℕ, zero, suc, ◌+◌, ◌-◌, ◌*◌, ◌<◌, ◌≤◌, Bool, true, false, not, eqb, List, [], ◌∷◌, ◌++◌, length, get_or, take, drop, replicate, sym, refl, ap, ap₂, ◌∙◌, subst, inl, inr, add-zero, zero-add, arith}
use Rattle.std.proofs.lemmas.List.{append-nil, append_assoc, length-append, take_at, drop_at, drop-drop, replicate-append-replicate}
use Rattle.std.proofs.lemmas.Bool.{eqb-true, eqb-false, ne_eqb, and_from, and_parts, cases_eq, not-true, true≢false}
use Rattle.meaning.specs.Text.{pick, Atom, ch, gap, tag, foot}
use Rattle.meaning.specs.Lines
use Rattle.meaning.specs.Lines.{nothing_yet, is_blank, split, long}
use Rattle.meaning.specs.Promise.{letters_of}
use Rattle.meaning.proofs.Picks.{pick_true, pick_false}
use Rattle.meaning.proofs.Splits.{ended_by, going_on, done_words, open_word, done_words_append, open_word_append, split_all, is_gap, gapless}
use Rattle.words.specs.Atoms.{numbers_of, numbers, decoded, is_standing, all_standing, all_plain, FirstAtom, marks_of, notes_of, word_of, atom_of}
use Rattle.words.specs.Slots.{slot_place, word_in, with_slot, no_atoms, atom_width, with_atom, part_of, words_from, Lies, Apart, Splits}
use Rattle.words.specs.declared.slots.Word.{Word}
use Rattle.words.specs.declared.atoms.Atom as Code
use Rattle.words.specs.declared.atoms.Atom.TheVariants.{Letter, Gap, Mark, Note}
use Rattle.words.proofs.Decoding.{numbers_append, standing_append, plain_parts, decoded_all}
use Rattle.words.proofs.Places.{word_in_slot, word_in_other, getD_before_slot, getD_in_slot, length_with_slot, drop_with_slot, blank_numbers}

-- what atoms without a gap are together, and one more
letters_push : (xs : List Atom) (x : Atom) → letters_of (xs ++ (x ∷ [])) ≡ letters_of xs ++ letters_of (x ∷ [])
unfolding letters_of
letters_push [] x = refl
letters_push (ch c ∷ xs) x = ap (λ (cs : List ℕ). c ∷ cs) (letters_push xs x)
letters_push (gap ∷ xs) x = letters_push xs x
letters_push (tag l ∷ xs) x = letters_push xs x
letters_push (foot f ∷ xs) x = letters_push xs x

marks_push : (xs : List Atom) (x : Atom) → marks_of (xs ++ (x ∷ [])) ≡ marks_of xs ++ marks_of (x ∷ [])
unfolding marks_of
marks_push [] x = refl
marks_push (ch c ∷ xs) x = marks_push xs x
marks_push (gap ∷ xs) x = marks_push xs x
marks_push (tag l ∷ xs) x = ap (λ (ls : List ℕ). l ∷ ls) (marks_push xs x)
marks_push (foot f ∷ xs) x = marks_push xs x

notes_push : (xs : List Atom) (x : Atom) → notes_of (xs ++ (x ∷ [])) ≡ notes_of xs ++ notes_of (x ∷ [])
unfolding notes_of
notes_push [] x = refl
notes_push (ch c ∷ xs) x = notes_push xs x
notes_push (gap ∷ xs) x = notes_push xs x
notes_push (tag l ∷ xs) x = notes_push xs x
notes_push (foot f ∷ xs) x = ap (λ (fs : List (List ℕ)). f ∷ fs) (notes_push xs x)

word_push : (xs : List Atom) (x : Atom) → is_gap x ≡ false → going_on x (word_of xs) ≡ word_of (xs ++ (x ∷ []))
unfolding going_on letters_of marks_of notes_of is_gap
word_push xs (ch c) e = λ i. record { letters = sym (letters_push xs (ch c)) i; tags = sym (marks_push xs (ch c) ∙ append-nil (marks_of xs)) i; feet = sym (notes_push xs (ch c) ∙ append-nil (notes_of xs)) i }
word_push xs gap e = absurd (true≢false e)
word_push xs (tag l) e = λ i. record { letters = sym (letters_push xs (tag l) ∙ append-nil (letters_of xs)) i; tags = sym (marks_push xs (tag l)) i; feet = sym (notes_push xs (tag l) ∙ append-nil (notes_of xs)) i }
word_push xs (foot f) e = λ i. record { letters = sym (letters_push xs (foot f) ∙ append-nil (letters_of xs)) i; tags = sym (marks_push xs (foot f) ∙ append-nil (marks_of xs)) i; feet = sym (notes_push xs (foot f)) i }

gapless_push : (xs : List Atom) (x : Atom) → gapless xs ≡ true → is_gap x ≡ false → gapless (xs ++ (x ∷ [])) ≡ true
unfolding gapless
gapless_push [] x p e = and_from (not (is_gap x)) true (ap not e) refl
gapless_push (y ∷ ys) x p e =
    let h = and_parts (not (is_gap y)) (gapless ys) p in
    and_from (not (is_gap y)) (gapless (ys ++ (x ∷ []))) h.0 (gapless_push ys x h.1 e)

pub long_append : (wide : ℕ → ℕ) (cs ds : List ℕ) → long wide (cs ++ ds) ≡ long wide cs + long wide ds
unfolding long
long_append wide [] ds = sym (zero-add (long wide ds))
long_append wide (c ∷ cs) ds = omega (arith, long_append wide cs ds)

long_push : (wide : ℕ → ℕ) (xs : List Atom) (x : Atom) → long wide (letters_of (xs ++ (x ∷ []))) ≡ long wide (letters_of xs) + atom_width wide x
unfolding long letters_of
long_push wide xs (ch c) = ap (long wide) (letters_push xs (ch c)) ∙ long_append wide (letters_of xs) (c ∷ []) ∙ omega arith
long_push wide xs gap = ap (long wide) (letters_push xs gap) ∙ long_append wide (letters_of xs) []
long_push wide xs (tag l) = ap (long wide) (letters_push xs (tag l)) ∙ long_append wide (letters_of xs) []
long_push wide xs (foot f) = ap (long wide) (letters_push xs (foot f)) ∙ long_append wide (letters_of xs) []

-- there is something of an atom that is no gap
holds_something : (x : Atom) (xs : List Atom) → is_gap x ≡ false → 0 < length (letters_of (x ∷ xs)) + length (marks_of (x ∷ xs)) + length (notes_of (x ∷ xs))
unfolding letters_of marks_of notes_of is_gap
holds_something (ch c) xs e = omega arith
holds_something gap xs e = absurd (true≢false e)
holds_something (tag l) xs e = omega arith
holds_something (foot f) xs e = omega arith

some_numbers : (x : Atom) → 0 < length (numbers_of x)
some_numbers (ch c) = omega arith
some_numbers gap = omega arith
some_numbers (tag l) = omega arith
some_numbers (foot f) = omega arith

blank_so : (xs : List Atom) → gapless xs ≡ true → is_blank (word_of xs) ≡ eqb (length (numbers xs)) 0
unfolding is_blank letters_of marks_of notes_of numbers gapless
blank_so [] p = refl
blank_so (x ∷ xs) p =
    let e : is_gap x ≡ false = not-true (is_gap x) (and_parts (not (is_gap x)) (gapless xs) p).0 in
    ne_eqb _ 0 (λ z. omega (arith, holds_something x xs e))
    ∙ sym (ne_eqb _ 0 (λ z. omega (arith, length-append (numbers_of x) (numbers xs), some_numbers x)))

ended_by_none : (x : Atom) (w : Lines.Word) → is_gap x ≡ false → ended_by x w ≡ []
unfolding is_gap ended_by
ended_by_none (ch c) w e = refl
ended_by_none gap w e = absurd (true≢false e)
ended_by_none (tag l) w e = refl
ended_by_none (foot f) w e = refl

-- the words of slots that are as they were
pub words_same : (row slots other : List ℕ) (first n : ℕ) → ((k : ℕ) → first ≤ k → k < first + n → word_in slots k ≡ word_in other k) → words_from row slots first n ≡ words_from row other first n
unfolding words_from
words_same row slots other first zero h = refl
words_same row slots other first (suc n) h =
    ap₂ (λ (w : Lines.Word) (ws : List Lines.Word). w ∷ ws) (ap (λ (v : Word). word_of (decoded (part_of row v))) (h first (omega arith) (omega arith)))
    (words_same row slots other (first + 1) n (λ k l m. h k (omega arith) (omega arith)))

pub words_push : (row slots : List ℕ) (first n : ℕ) → words_from row slots first (suc n) ≡ words_from row slots first n ++ (word_of (decoded (part_of row (word_in slots (first + n)))) ∷ [])
unfolding words_from
words_push row slots first zero = ap (λ (k : ℕ). word_of (decoded (part_of row (word_in slots k))) ∷ []) (sym (add-zero first))
words_push row slots first (suc n) =
    ap (λ (ws : List Lines.Word). word_of (decoded (part_of row (word_in slots first))) ∷ ws)
    (words_push row slots (first + 1) n ∙ ap (λ (k : ℕ). words_from row slots (first + 1) n ++ (word_of (decoded (part_of row (word_in slots k))) ∷ [])) (omega arith))

-- one part behind another
nothing_taken : {X : Type 0} (k : ℕ) → ◌≡◌ {A = List X} [] (take k [])
nothing_taken zero = refl
nothing_taken (suc k) = refl

pub take_add : {X : Type 0} (a b : ℕ) (xs : List X) → take (a + b) xs ≡ take a xs ++ take b (drop a xs)
take_add zero b xs = ap (λ (k : ℕ). take k xs) (omega arith)
take_add {X = X} (suc a) b [] = sym (nothing_taken {X = X} (suc a + b)) ∙ nothing_taken b
take_add {X = X} (suc a) b (x ∷ xs) = let e : suc a + b ≡ suc (a + b) = omega arith in ap (λ (k : ℕ). take k (x ∷ xs)) e ∙ ap (λ (ys : List X). x ∷ ys) (take_add a b xs)

-- the words that are done
pub record Done (wide : ℕ → ℕ) (row before slots : List ℕ) (n : ℕ) : Type 0 where
  pub each : (k : ℕ) → k < n → Lies wide row (word_in slots k)
  pub apart : (k : ℕ) → k + 1 < n → Apart row (word_in slots k) (word_in slots (k + 1)).first
  pub blank : (k j : ℕ) → k < n → 3 ≤ j → j < 8 → get_or slots (slot_place k + j) 0 ≡ 0
  pub as_long : length slots ≡ length before
  pub behind : drop (slot_place n) slots ≡ drop (slot_place n) before

-- the word that may still grow, of these atoms; it ends where the atoms do that have been seen
pub record Open (wide : ℕ → ℕ) (row : List ℕ) (v : Word) (at n : ℕ) (tail : List Atom) : Type 0 where
  pub standing : all_standing tail ≡ true
  pub gapless_tail : gapless tail ≡ true
  pub part : part_of row v ≡ numbers tail
  pub ends : v.first + v.numbers ≡ at
  pub count : length (numbers tail) ≡ v.numbers
  pub width : v.width ≡ long wide (letters_of tail)
  pub narrow : v.width ≤ 255 * v.numbers
  pub fewer : n ≤ v.first

pub record Seen (wide : ℕ → ℕ) (row before rest slots : List ℕ) (at n : ℕ) (v : Word) : Type 0 where
  pub atoms : List Atom
  pub standing : all_standing atoms ≡ true
  pub form : row ≡ numbers atoms ++ rest
  pub all : decoded row ≡ atoms ++ decoded rest
  pub place : at ≡ length (numbers atoms)
  pub done : Done wide row before slots n
  pub words : done_words atoms nothing_yet ≡ words_from row slots 0 n
  pub front : List Atom
  pub tail : List Atom
  pub parts : atoms ≡ front ++ tail
  pub growing : Open wide row v at n tail
  pub grows : open_word atoms nothing_yet ≡ word_of tail
  pub last : (k : ℕ) → k + 1 ≡ n → Apart row (word_in slots k) v.first

pub seen_none : {wide : ℕ → ℕ} {row before : List ℕ} {v : Word} → v ≡ no_atoms 0 → Seen wide row before row before 0 0 v
unfolding all_standing numbers done_words words_from open_word letters_of marks_of notes_of gapless long
seen_none {wide} {row} {before} e =
    rw e (record {
      atoms = [];
      standing = refl;
      form = refl;
      all = refl;
      place = refl;
      done = record { each = λ k l. absurd (omega arith); apart = λ k l. absurd (omega arith); blank = λ k j l. absurd (omega arith); as_long = refl; behind = refl };
      words = refl;
      front = [];
      tail = [];
      parts = refl;
      growing = record { standing = refl; gapless_tail = refl; part = refl; ends = refl; count = refl; width = refl; narrow = omega arith; fewer = omega arith };
      grows = refl;
      last = λ k l. absurd (omega arith);
    })

module _ {wide : ℕ → ℕ} {row before rest slots : List ℕ} {at n : ℕ} {v : Word} (s : Seen wide row before rest slots at n v) where
  pub place_within : at ≤ length row
  place_within = omega (arith, ap length s.form, length-append (numbers s.atoms) rest, s.place)

  at_rest : drop at row ≡ rest
  at_rest = ap (drop at) s.form ∙ drop_at (numbers s.atoms) rest at (sym s.place)

  module _ {x : Atom} {later : List ℕ} (first : FirstAtom rest x later) where
    atoms_now : List Atom
    atoms_now = s.atoms ++ (x ∷ [])

    numbers_now : numbers (s.atoms ++ (x ∷ [])) ≡ numbers s.atoms ++ numbers_of x
    unfolding numbers
    numbers_now = numbers_append s.atoms (x ∷ []) ∙ ap (λ (ns : List ℕ). numbers s.atoms ++ ns) (append-nil (numbers_of x))

    form_now : row ≡ numbers (s.atoms ++ (x ∷ [])) ++ later
    form_now =
        s.form ∙ ap (λ (ns : List ℕ). numbers s.atoms ++ ns) first.form ∙ sym (append_assoc (numbers s.atoms) (numbers_of x) later) ∙ ap (λ (ns : List ℕ). ns ++ later) (sym numbers_now)

    all_now : decoded row ≡ (s.atoms ++ (x ∷ [])) ++ decoded later
    all_now = s.all ∙ ap (λ (ys : List Atom). s.atoms ++ ys) first.atoms ∙ sym (append_assoc s.atoms (x ∷ []) (decoded later))

    standing_now : all_standing (s.atoms ++ (x ∷ [])) ≡ true
    unfolding all_standing
    standing_now = standing_append s.atoms (x ∷ []) s.standing (and_from (is_standing x) true first.standing refl)

    place_now : at + length (numbers_of x) ≡ length (numbers (s.atoms ++ (x ∷ [])))
    place_now = omega (arith, s.place, ap length numbers_now, length-append (numbers s.atoms) (numbers_of x))

    pub next_within : at + length (numbers_of x) ≤ length row
    next_within = omega (arith, place_now, ap length form_now, length-append (numbers (s.atoms ++ (x ∷ []))) later)

    -- its numbers stand behind the others
    stands : take (length (numbers_of x)) (drop at row) ≡ numbers_of x
    stands = ap (take (length (numbers_of x))) (at_rest ∙ first.form) ∙ take_at (numbers_of x) later (length (numbers_of x)) refl

    -- one atom more in the word
    module _ (other : is_gap x ≡ false) (small : atom_width wide x ≤ 255) where
      open_more : Open wide row (with_atom wide v x) (at + length (numbers_of x)) n (s.tail ++ (x ∷ []))
      unfolding numbers all_standing
      open_more =
          let o = s.growing in
          let part_now : numbers (s.tail ++ (x ∷ [])) ≡ numbers s.tail ++ numbers_of x = numbers_append s.tail (x ∷ []) ∙ ap (λ (ns : List ℕ). numbers s.tail ++ ns) (append-nil (numbers_of x)) in
          record {
            standing = standing_append s.tail (x ∷ []) o.standing (and_from (is_standing x) true first.standing refl);
            gapless_tail = gapless_push s.tail x o.gapless_tail other;
            part = take_add v.numbers (length (numbers_of x)) (drop v.first row)
                ∙ ap₂ (λ (a b : List ℕ). a ++ b) o.part
                (ap (take (length (numbers_of x))) (drop-drop v.numbers v.first row ∙ ap (λ (k : ℕ). drop k row) o.ends) ∙ stands)
                ∙ sym part_now;
            ends = omega (arith, o.ends);
            count = omega (arith, ap length part_now, length-append (numbers s.tail) (numbers_of x), o.count);
            width = ap (λ (w : ℕ). w + atom_width wide x) o.width ∙ sym (long_push wide s.tail x);
            narrow = omega (arith, o.narrow, some_numbers x);
            fewer = o.fewer;
          }

      pub seen_more : Seen wide row before later slots (at + length (numbers_of x)) n (with_atom wide v x)
      unfolding done_words open_word
      seen_more =
          record {
            atoms = s.atoms ++ (x ∷ []);
            standing = standing_now;
            form = form_now;
            all = all_now;
            place = place_now;
            done = s.done;
            words = done_words_append s.atoms (x ∷ []) nothing_yet
                ∙ ap (λ (ws : List Lines.Word). done_words s.atoms nothing_yet ++ (ws ++ [])) (ended_by_none x (open_word s.atoms nothing_yet) other)
                ∙ append-nil (done_words s.atoms nothing_yet)
                ∙ s.words;
            front = s.front;
            tail = s.tail ++ (x ∷ []);
            parts = ap (λ (xs : List Atom). xs ++ (x ∷ [])) s.parts ∙ append_assoc s.front s.tail (x ∷ []);
            growing = open_more;
            grows = open_word_append s.atoms (x ∷ []) nothing_yet ∙ ap (going_on x) s.grows ∙ word_push s.tail x other;
            last = s.last;
          }

  -- the word is closed
  module _ {r : ℕ} {closed : List ℕ} (e : r ≡ pick (eqb v.numbers 0) n (n + 1)) (f : closed ≡ pick (eqb v.numbers 0) slots (with_slot slots n v)) (room : 0 < v.numbers → slot_place (n + 1) ≤ length slots) where
    tail_is : decoded (part_of row v) ≡ s.tail
    tail_is = ap decoded s.growing.part ∙ decoded_all s.tail s.growing.standing

    lies : 0 < v.numbers → Lies wide row v
    lies some =
        let o = s.growing in
        record {
          some = some;
          within = omega (arith, o.ends, place_within);
          whole = ap numbers tail_is ∙ sym o.part;
          width = o.width ∙ ap (λ (xs : List Atom). long wide (letters_of xs)) (sym tail_is);
          narrow = o.narrow;
          plain = λ p.
              let all_of : all_plain (s.atoms ++ decoded rest) ≡ true = ap all_plain (sym s.all) ∙ p in
              let seen_plain : all_plain (s.front ++ s.tail) ≡ true = ap all_plain (sym s.parts) ∙ (plain_parts s.atoms (decoded rest) all_of).0 in
              ap all_plain tail_is ∙ (plain_parts s.front s.tail seen_plain).1;
        }

    blank_now : ended_by gap (open_word s.atoms nothing_yet) ≡ pick (eqb v.numbers 0) [] (word_of s.tail ∷ [])
    unfolding ended_by
    blank_now =
        ap (λ (w : Lines.Word). pick (is_blank w) [] (w ∷ [])) s.grows
        ∙ ap (λ (b : Bool). pick b [] (word_of s.tail ∷ [])) (blank_so s.tail s.growing.gapless_tail ∙ ap (λ (k : ℕ). eqb k 0) s.growing.count)

    -- what is known then, whichever it is
    record Closed (m : ℕ) (row_of_slots : List ℕ) : Type 0 where
      done : Done wide row before row_of_slots m
      words : done_words s.atoms nothing_yet ++ ended_by gap (open_word s.atoms nothing_yet) ≡ words_from row row_of_slots 0 m
      few : m ≤ at
      last : (k next : ℕ) → k + 1 ≡ m → at ≤ next → take (next - at) (drop at row) ≡ replicate (next - at) 32 → Apart row (word_in row_of_slots k) next

    closed_blank : eqb v.numbers 0 ≡ true → Closed n slots
    closed_blank z =
        let none : v.numbers ≡ 0 = eqb-true v.numbers 0 z in
        let o = s.growing in
        record {
          done = s.done;
          words = ap (λ (ws : List Lines.Word). done_words s.atoms nothing_yet ++ ws) (blank_now ∙ pick_true (eqb v.numbers 0) [] _ z) ∙ append-nil (done_words s.atoms nothing_yet) ∙ s.words;
          few = omega (arith, o.fewer, o.ends);
          last = λ k next h l g.
              let a = s.last k h in
              let start : v.first ≡ at = omega (arith, o.ends) in
              let u : Word = word_in slots k in
              let end : ℕ = u.first + u.numbers in
              let before_it : ℕ = at - end in
              let both : next - end ≡ (at - end) + (next - at) = omega (arith, a.behind, start) in
              record {
                behind = omega (arith, a.behind, start);
                gaps = ap (λ (j : ℕ). take j (drop end row)) both ∙ take_add (at - end) (next - at) (drop end row)
                    ∙ ap₂ (λ (xs ys : List ℕ). xs ++ ys) (ap (λ (j : ℕ). take (j - end) (drop end row)) (sym start) ∙ a.gaps ∙ ap (λ (j : ℕ). replicate (j - end) 32) start)
                    (ap (take (next - at)) (drop-drop (at - end) end row ∙ ap (λ (j : ℕ). drop j row) (omega (arith, a.behind, start))) ∙ g)
                    ∙ replicate-append-replicate (at - end) (next - at) 32
                    ∙ ap (λ (j : ℕ). replicate j 32) (sym both);
              };
        }

    closed_some : eqb v.numbers 0 ≡ false → Closed (n + 1) (with_slot slots n v)
    closed_some z =
        let some : 0 < v.numbers = omega (arith, eqb-false v.numbers 0 z) in
        let o = s.growing in
        let d = s.done in
        let fits = room some in
        let here : word_in (with_slot slots n v) n ≡ v = word_in_slot slots n v fits in
        let other : (k : ℕ) → k < n → word_in (with_slot slots n v) k ≡ word_in slots k = word_in_other slots n v fits in
        record {
          done = record {
            each = λ k l. elim (cases_eq k n) [
              | inl e ↦ subst (Lies wide row) (sym (ap (word_in (with_slot slots n v)) e ∙ here)) (lies some)
              | inr e ↦ subst (Lies wide row) (sym (other k (omega arith))) (d.each k (omega arith))
            ];
            apart = λ k l. elim (cases_eq (k + 1) n) [
              | inl e ↦
                  subst (λ (u : Word). Apart row u (word_in (with_slot slots n v) (k + 1)).first) (sym (other k (omega arith)))
                  (subst (λ (u : Word). Apart row (word_in slots k) u.first) (sym (ap (word_in (with_slot slots n v)) e ∙ here)) (s.last k e))
              | inr e ↦
                  subst (λ (u : Word). Apart row u (word_in (with_slot slots n v) (k + 1)).first) (sym (other k (omega arith)))
                  (subst (λ (u : Word). Apart row (word_in slots k) u.first) (sym (other (k + 1) (omega arith))) (d.apart k (omega arith)))
            ];
            blank = λ k j m a b. elim (cases_eq k n) [
              | inl e ↦ ap (λ i. get_or (with_slot slots n v) (slot_place i + j) 0) e ∙ getD_in_slot slots n v fits j b ∙ blank_numbers v j a b
              | inr e ↦ getD_before_slot slots n v fits (slot_place k + j) (omega arith) ∙ d.blank k j (omega arith) a b
            ];
            as_long = length_with_slot slots n v fits ∙ d.as_long;
            behind = drop_with_slot slots n v fits ∙ drop_on slots ∙ ap (drop 8) d.behind ∙ sym (drop_on before);
          };
          words = ap (λ (ws : List Lines.Word). done_words s.atoms nothing_yet ++ ws) (blank_now ∙ pick_false (eqb v.numbers 0) [] _ z)
              ∙ ap₂ (λ (us ws : List Lines.Word). us ++ ws) (s.words ∙ words_same row slots (with_slot slots n v) 0 n (λ k _ l. sym (other k (omega arith))))
              (ap (λ (xs : List Atom). word_of xs ∷ []) (sym tail_is) ∙ ap (λ (u : Word). word_of (decoded (part_of row u)) ∷ []) (sym here ∙ ap (word_in (with_slot slots n v)) (omega arith)))
              ∙ sym (words_push row (with_slot slots n v) 0 n)
              ∙ ap (words_from row (with_slot slots n v) 0) (omega arith);
          few = omega (arith, o.fewer, o.ends);
          last = λ k next h l g.
              let is : k ≡ n = omega arith in
              subst (λ (u : Word). Apart row u next) (sym (ap (word_in (with_slot slots n v)) is ∙ here)) (record { behind = omega (arith, o.ends); gaps = rw o.ends g });
        }
      where
        drop_on : (xs : List ℕ) → drop (slot_place (n + 1)) xs ≡ drop 8 (drop (slot_place n) xs)
        drop_on xs = ap (λ p. drop p xs) (omega arith) ∙ sym (drop-drop 8 (slot_place n) xs)

    closes : Closed r closed
    closes = go (eqb v.numbers 0) refl e f
      where
        go : (b : Bool) → eqb v.numbers 0 ≡ b → r ≡ pick b n (n + 1) → closed ≡ pick b slots (with_slot slots n v) → Closed r closed
        go true z g h = subst (λ (m : ℕ). Closed m closed) (sym g) (subst (Closed n) (sym h) (closed_blank z))
        go false z g h = subst (λ (m : ℕ). Closed m closed) (sym g) (subst (Closed (n + 1)) (sym h) (closed_some z))

    pub seen_gap : {later : List ℕ} → FirstAtom rest gap later → Seen wide row before later closed (at + 1) r (no_atoms (at + 1))
    unfolding done_words open_word numbers gapless all_standing letters_of marks_of notes_of long going_on
    seen_gap {later} first =
        let c = closes in
        record {
          atoms = s.atoms ++ (gap ∷ []);
          standing = standing_now first;
          form = form_now first;
          all = all_now first;
          place = place_now first;
          done = c.done;
          words = done_words_append s.atoms (gap ∷ []) nothing_yet
              ∙ ap (λ (ws : List Lines.Word). done_words s.atoms nothing_yet ++ ws) (append-nil (ended_by gap (open_word s.atoms nothing_yet)))
              ∙ c.words;
          front = s.atoms ++ (gap ∷ []);
          tail = [];
          parts = sym (append-nil (s.atoms ++ (gap ∷ [])));
          growing = record { standing = refl; gapless_tail = refl; part = refl; ends = omega arith; count = refl; width = refl; narrow = omega arith; fewer = omega (arith, c.few) };
          grows = open_word_append s.atoms (gap ∷ []) nothing_yet;
          last = λ k h.
              let one : at + 1 - at ≡ 1 = omega arith in
              c.last k (at + 1) h (omega arith) (ap (λ (j : ℕ). take j (drop at row)) one ∙ stands first ∙ ap (λ (j : ℕ). replicate j 32) (sym one));
        }

    pub split_done : decoded rest ≡ [] → Splits wide row before closed r
    split_done none =
        let c = closes in
        record {
          words = ap (λ (xs : List Atom). split xs nothing_yet) (s.all ∙ ap (λ (ys : List Atom). s.atoms ++ ys) none ∙ append-nil s.atoms) ∙ split_all s.atoms nothing_yet ∙ c.words;
          few = omega (arith, c.few, place_within);
          each = c.done.each;
          apart = c.done.apart;
          blank = c.done.blank;
          as_long = c.done.as_long;
          behind = c.done.behind;
        }

  pub room_for_one : 8 * length row ≤ length before → 0 < v.numbers → slot_place (n + 1) ≤ length slots
  room_for_one many some = omega (arith, many, some, s.growing.ends, s.growing.fewer, s.done.as_long, place_within)

  -- an atom that was taken off
  module _ {a : Code.Atom} {later : List ℕ} {m : ℕ} (first : FirstAtom rest (atom_of a) later) (count : m ≡ length (numbers_of (atom_of a))) where
    pub seen_gap_there :
        a ≡ Gap → {r : ℕ} {closed : List ℕ} {u : Word} → 8 * length row ≤ length before → r ≡ pick (eqb v.numbers 0) n (n + 1) → closed ≡ pick (eqb v.numbers 0) slots (with_slot slots n v) →
        u ≡ no_atoms (at + m) → Seen wide row before later closed (at + m) r u
    seen_gap_there is {r} {closed} {u} many e f g =
        let one : m ≡ 1 = count ∙ ap (λ (b : Code.Atom). length (numbers_of (atom_of b))) is in
        let gap_first : FirstAtom rest gap later = subst (λ (b : Code.Atom). FirstAtom rest (atom_of b) later) is first in
        subst (λ (w : Word). Seen wide row before later closed (at + m) r w) (sym g) (rw one (seen_gap e f (room_for_one many) gap_first))

    pub seen_more_there : (a ≡ Gap → ⊥) → {u : Word} → u ≡ with_atom wide v (atom_of a) → u.width ≤ v.width + 255 → Seen wide row before later slots (at + m) n u
    unfolding is_gap
    seen_more_there other {u} e small =
        subst (λ (k : ℕ). Seen wide row before later slots (at + k) n u) (sym count)
        (subst (λ (w : Word). Seen wide row before later slots (at + length (numbers_of (atom_of a))) n w) (sym e)
        (seen_more first (no_gap a other) (omega (arith, small, ap (λ (w : Word). w.width) e))))
      where
        no_gap : (b : Code.Atom) → (b ≡ Gap → ⊥) → is_gap (atom_of b) ≡ false
        no_gap (Letter c) h = refl
        no_gap Gap h = absurd (h refl)
        no_gap (Mark l) h = refl
        no_gap (Note text) h = refl

pub splits_narrow : {wide : ℕ → ℕ} {row before after : List ℕ} {n : ℕ} → length row ≤ 4096 → Splits wide row before after n → (k : ℕ) → k < n → (word_in after k).width ≤ 1048576
splits_narrow few s k l = omega (arith, (s.each k l).narrow, (s.each k l).within)
