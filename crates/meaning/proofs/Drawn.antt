-- Which letters a text can set: those of its tokens and of its definitions, digits, and the question mark.
use Rattle.std.proofs.Common.{◌≡◌, ℕ, zero, suc, ◌+◌, ◌/◌, ◌%◌, ◌≤◌, Bool, true, false, eqb, ltb, ◌⊎◌, List, [], ◌∷◌, take, drop, refl, inl, inr, arith}
use Rattle.std.specs.List.{AllByRecursion as All}
use Rattle.std.proofs.ByRecursion.{All-append, All-push, All-take, All-drop, All-weaker}
use Rattle.std.proofs.lemmas.Bool.{and_parts, both_ways, eqb-false, ltb-true}
use Rattle.meaning.specs.Text.{Token, letter, space, mark, page_of, note, command, given, Tokens, none, more, Atom, ch, gap, tag, foot, digits_in, plainly, flat_one, flat, Definition, defined, meant, atoms}
use Rattle.meaning.specs.Lines.{Word, nothing_yet, is_blank, split, Line, set_lines, feet_of, paragraph}
use Rattle.meaning.specs.Pages.{Looks, spaced, all_lines}
use Rattle.meaning.specs.Calls.{good, good_one}
use Rattle.meaning.proofs.Picks.{pick_both}
use Rattle.meaning.proofs.Forms.{good_letter}

-- a note's letters have 32 for gaps
abbrev pub OrGap : (ℕ → Type 0) → ℕ → Type 0
OrGap P c = (c ≡ 32) ⊎ P c

abbrev pub DrawnAtom : (ℕ → Type 0) → Atom → Type 0
DrawnAtom P (ch c) = P c
DrawnAtom P gap = Unit {0}
DrawnAtom P (tag l) = Unit {0}
DrawnAtom P (foot f) = All (OrGap P) f

abbrev pub Drawn : (ℕ → Type 0) → List Atom → Type 0
Drawn P xs = All (DrawnAtom P) xs

abbrev pub DrawnFeet : (ℕ → Type 0) → List (List ℕ) → Type 0
DrawnFeet P fs = All (All (OrGap P)) fs

pub record DrawnWord (P : ℕ → Type 0) (w : Word) : Type 0 where
  pub by_letters : All P w.letters
  pub by_feet : DrawnFeet P w.feet

-- all letters of tokens are such
abbrev mutual
  pub Letters : (ℕ → Type 0) → Tokens → Type 0
  Letters P none = Unit {0}
  Letters P (more t ts) = LettersOne P t × Letters P ts

  pub LettersOne : (ℕ → Type 0) → Token → Type 0
  LettersOne P (letter c) = P c
  LettersOne P space = Unit {0}
  LettersOne P (mark l) = Unit {0}
  LettersOne P (page_of l) = Unit {0}
  LettersOne P (note ts) = Letters P ts
  LettersOne P (command k ts) = Letters P ts
  LettersOne P given = Unit {0}

abbrev pub DefinedIn : (ℕ → Type 0) → List Definition → Type 0
DefinedIn P ds = All (λ d. Letters P d.as_what) ds

-- what is set without being written: a digit, and a question mark
pub record Draws (P : ℕ → Type 0) : Type 0 where
  pub digit : (c : ℕ) → 48 ≤ c → c ≤ 57 → P c
  pub question : P 63

-- from tokens to atoms
pub digits_drawn : (P : ℕ → Type 0) → Draws P → (k n : ℕ) → Drawn P (digits_in k n)
unfolding digits_in
digits_drawn P p zero n = tt
digits_drawn P p (suc k) n =
    pick_both (ltb n 10) _ _ (Drawn P) (λ e. (p.digit (48 + n) (omega arith) (omega (arith, ltb-true n 10 e)), tt))
    (λ e. All-append (DrawnAtom P) (digits_in k (n / 10)) _ (digits_drawn P p k (n / 10)) (p.digit (48 + n % 10) (omega arith) (omega arith), tt))

pub plainly_drawn : (P : ℕ → Type 0) (xs : List Atom) → Drawn P xs → All (OrGap P) (plainly xs)
unfolding plainly
plainly_drawn P [] d = tt
plainly_drawn P (ch c ∷ xs) d = (inr d.0, plainly_drawn P xs d.1)
plainly_drawn P (gap ∷ xs) d = (inl refl, plainly_drawn P xs d.1)
plainly_drawn P (tag l ∷ xs) d = plainly_drawn P xs d.1
plainly_drawn P (foot f ∷ xs) d = plainly_drawn P xs d.1

pub spaced_drawn : (P : ℕ → Type 0) (f : List ℕ) → All (OrGap P) f → Drawn P (spaced f)
unfolding spaced
spaced_drawn P [] d = tt
spaced_drawn P (c ∷ cs) d =
    (pick_both (eqb c 32) gap (ch c) (DrawnAtom P) (λ e. tt) (λ e. elim d.0 [ inl s ↦ absurd (eqb-false c 32 e s) | inr p ↦ p ]), spaced_drawn P cs d.1)

-- commands that keep to the letters they are given
abbrev pub Keeping : (ℕ → Type 0) → (ℕ → List Atom → List Atom) → Type 0
Keeping P does = (k : ℕ) (arg : List Atom) → Drawn P arg → Drawn P (does k arg)

mutual
  flat_one_drawn :
      (P : ℕ → Type 0) → Draws P → (t : Token) (pg : ℕ → ℕ) (does : ℕ → List Atom → List Atom) (arg : List Atom) → Keeping P does → LettersOne P t →
      Drawn P arg → Drawn P (flat_one t pg does arg)
  flat_one_drawn P p (letter c) pg does arg k l a = (l, tt)
  flat_one_drawn P p space pg does arg k l a = (tt, tt)
  flat_one_drawn P p (mark m) pg does arg k l a = (tt, tt)
  flat_one_drawn P p (page_of m) pg does arg k l a = digits_drawn P p 8 (pg m)
  flat_one_drawn P p (note ts) pg does arg k l a = (plainly_drawn P (flat ts pg does arg) (flat_drawn P p ts pg does arg k l a), tt)
  flat_one_drawn P p (command n ts) pg does arg k l a = k n (flat ts pg does arg) (flat_drawn P p ts pg does arg k l a)
  flat_one_drawn P p given pg does arg k l a = a

  flat_drawn :
      (P : ℕ → Type 0) → Draws P → (ts : Tokens) (pg : ℕ → ℕ) (does : ℕ → List Atom → List Atom) (arg : List Atom) → Keeping P does → Letters P ts →
      Drawn P arg → Drawn P (flat ts pg does arg)
  flat_drawn P p none pg does arg k l a = tt
  flat_drawn P p (more t ts) pg does arg k l a =
      All-append (DrawnAtom P) (flat_one t pg does arg) (flat ts pg does arg) (flat_one_drawn P p t pg does arg k l.0 a) (flat_drawn P p ts pg does arg k l.1 a)

defined_letters : (P : ℕ → Type 0) (ds : List Definition) (k : ℕ) (d : Tokens) → DefinedIn P ds → Letters P d → Letters P (defined ds k d)
unfolding defined
defined_letters P [] k d h l = l
defined_letters P (x ∷ xs) k d h l = defined_letters P xs k _ h.1 (pick_both (eqb x.nr k) x.as_what d (Letters P) (λ e. h.0) (λ e. l))

pub meant_drawn : (P : ℕ → Type 0) → Draws P → (n : ℕ) (ds : List Definition) (pg : ℕ → ℕ) → DefinedIn P ds → Keeping P (meant n ds pg)
unfolding meant
meant_drawn P p zero ds pg h k arg a = (p.question, tt)
meant_drawn P p (suc n) ds pg h k arg a =
    flat_drawn P p (defined ds k (more given none)) pg (meant n ds pg) arg (meant_drawn P p n ds pg h) (defined_letters P ds k (more given none) h (tt, tt)) a

pub atoms_drawn : (P : ℕ → Type 0) → Draws P → (ds : List Definition) (pg : ℕ → ℕ) (ts : Tokens) → DefinedIn P ds → Letters P ts → Drawn P (atoms ds pg ts)
atoms_drawn P p ds pg ts h l = flat_drawn P p ts pg (meant 16 ds pg) [] (meant_drawn P p 16 ds pg h) l tt

-- from atoms to words and lines
pub nothing_drawn : (P : ℕ → Type 0) → DrawnWord P nothing_yet
nothing_drawn P = record { by_letters = tt; by_feet = tt }

pub split_drawn : (P : ℕ → Type 0) (xs : List Atom) (w : Word) → Drawn P xs → DrawnWord P w → All (DrawnWord P) (split xs w)
unfolding split
split_drawn P [] w d h = pick_both (is_blank w) [] (w ∷ []) (All (DrawnWord P)) (λ e. tt) (λ e. (h, tt))
split_drawn P (gap ∷ xs) w d h =
    let others : All (DrawnWord P) (split xs nothing_yet) = split_drawn P xs nothing_yet d.1 (nothing_drawn P) in
    pick_both (is_blank w) (split xs nothing_yet) (w ∷ split xs nothing_yet) (All (DrawnWord P)) (λ e. others) (λ e. (h, others))
split_drawn P (ch c ∷ xs) w d h = split_drawn P xs _ d.1 (record { by_letters = All-push P w.letters c h.by_letters d.0; by_feet = h.by_feet })
split_drawn P (tag l ∷ xs) w d h = split_drawn P xs _ d.1 (record { by_letters = h.by_letters; by_feet = h.by_feet })
split_drawn P (foot f ∷ xs) w d h = split_drawn P xs _ d.1 (record { by_letters = h.by_letters; by_feet = All-push (All (OrGap P)) w.feet f h.by_feet d.0 })

pub words_drawn : (P : ℕ → Type 0) (xs : List Atom) → Drawn P xs → All (DrawnWord P) (split xs nothing_yet)
words_drawn P xs d = split_drawn P xs nothing_yet d (nothing_drawn P)

feet_of_drawn : (P : ℕ → Type 0) (ws : List Word) → All (DrawnWord P) ws → DrawnFeet P (feet_of ws)
unfolding feet_of
feet_of_drawn P [] d = tt
feet_of_drawn P (w ∷ ws) d = All-append (All (OrGap P)) w.feet (feet_of ws) d.0.by_feet (feet_of_drawn P ws d.1)

abbrev pub DrawnLines : (ℕ → Type 0) → List Line → Type 0
DrawnLines P ls = All (λ l. DrawnFeet P l.feet) ls

set_lines_drawn : (P : ℕ → Type 0) (wide : ℕ → ℕ) (w : ℕ) (ws : List Word) (ks : List ℕ) → All (DrawnWord P) ws → DrawnLines P (set_lines wide w ws ks)
unfolding set_lines
set_lines_drawn P wide w ws [] d = tt
set_lines_drawn P wide w ws (k ∷ ks) d = (feet_of_drawn P (take k ws) (All-take (DrawnWord P) k ws d), set_lines_drawn P wide w (drop k ws) ks (All-drop (DrawnWord P) k ws d))

pub paragraph_drawn : (P : ℕ → Type 0) (wide : ℕ → ℕ) (w : ℕ) (xs : List Atom) → Drawn P xs → DrawnLines P (paragraph wide w xs)
paragraph_drawn P wide w xs d = set_lines_drawn P wide w (split xs nothing_yet) _ (words_drawn P xs d)

pub all_lines_drawn :
    (P : ℕ → Type 0) → Draws P → (g : Looks) (ds : List Definition) (pg : ℕ → ℕ) (ps : List Tokens) → DefinedIn P ds → All (Letters P) ps →
    DrawnLines P (all_lines g ds pg ps)
unfolding all_lines
all_lines_drawn P p g ds pg [] h ls = tt
all_lines_drawn P p g ds pg (t ∷ ts) h ls =
    All-append (λ l. DrawnFeet P l.feet) (paragraph g.wide g.across (atoms ds pg t)) (all_lines g ds pg ts)
    (paragraph_drawn P g.wide g.across (atoms ds pg t) (atoms_drawn P p ds pg t h ls.0)) (all_lines_drawn P p g ds pg ts h ls.1)

-- good tokens, definitions and paragraphs have letters from 33 to 126, and so has all that is set of them
abbrev pub Plain : ℕ → Type 0
Plain c = (33 ≤ c) × (c ≤ 126)

pub plain_draws : Draws Plain
plain_draws = record { digit = λ c a b. (omega arith, omega arith); question = (omega arith, omega arith) }

mutual
  pub good_one_letters : (can : ℕ → Bool) (t : Token) (d : ℕ) → good_one can t d ≡ true → LettersOne Plain t
  good_one_letters can (letter c) d h = good_letter can c d h
  good_one_letters can space d h = tt
  good_one_letters can (mark l) d h = tt
  good_one_letters can (page_of l) d h = tt
  good_one_letters can (note ts) zero h = absurd (both_ways false refl h)
  good_one_letters can (note ts) (suc d) h = good_letters can ts d (and_parts (can 4) (good can ts d) h).1
  good_one_letters can (command k ts) zero h = absurd (both_ways false refl h)
  good_one_letters can (command k ts) (suc d) h = good_letters can ts d (and_parts (ltb k 256) (good can ts d) (and_parts (can 5) _ h).1).1
  good_one_letters can given d h = tt

  pub good_letters : (can : ℕ → Bool) (ts : Tokens) (d : ℕ) → good can ts d ≡ true → Letters Plain ts
  good_letters can none d h = tt
  good_letters can (more t ts) d h =
      let hs : (good_one can t d ≡ true) × (good can ts d ≡ true) = and_parts (good_one can t d) (good can ts d) h in
      (good_one_letters can t d hs.0, good_letters can ts d hs.1)

pub good_defined : (can : ℕ → Bool) (n : ℕ) (ds : List Definition) → All (λ d. good can d.as_what n ≡ true) ds → DefinedIn Plain ds
good_defined can n ds h = All-weaker (λ d. good can d.as_what n ≡ true) (λ d. Letters Plain d.as_what) (λ d. good_letters can d.as_what n) ds h

pub good_atoms :
    (can : ℕ → Bool) (n : ℕ) (ds : List Definition) (pg : ℕ → ℕ) (ts : Tokens) → All (λ d. good can d.as_what n ≡ true) ds → good can ts n ≡ true →
    Drawn Plain (atoms ds pg ts)
good_atoms can n ds pg ts gd gt = atoms_drawn Plain plain_draws ds pg ts (good_defined can n ds gd) (good_letters can ts n gt)
