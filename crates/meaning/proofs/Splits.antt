-- How a row of atoms splits into words: atom by atom, part by part, and with nothing lost.
use Rattle.std.proofs.Common.{◌≡◌, ◌+◌, Bool, true, false, not, ◌&&◌, List, [], ◌∷◌, ◌++◌, length, sym, refl, ap, ◌∙◌, arith}
use Rattle.std.specs.List.{flat_map}
use Rattle.std.proofs.lemmas.List.{append-nil, append_assoc, nil_from_length}
use Rattle.std.proofs.lemmas.Bool.{eqb-true, and_parts, not-true, true≢false}
use Rattle.meaning.specs.Text.{pick, Atom, ch, gap, tag, foot}
use Rattle.meaning.specs.Lines.{Word, nothing_yet, is_blank, split, tags_of, feet_of}
use Rattle.meaning.specs.Promise.{letters_of}
use Rattle.meaning.proofs.Picks.{pick_both}

-- one atom behind the word w: the words that it ends, and the word that goes on
unfoldable pub ended_by : Atom → Word → List Word
ended_by (ch c) w = []
ended_by gap w = pick (is_blank w) [] (w ∷ [])
ended_by (tag l) w = []
ended_by (foot f) w = []

unfoldable pub going_on : Atom → Word → Word
going_on (ch c) w = record { letters = w.letters ++ (c ∷ []); tags = w.tags; feet = w.feet }
going_on gap w = nothing_yet
going_on (tag l) w = record { letters = w.letters; tags = w.tags ++ (l ∷ []); feet = w.feet }
going_on (foot f) w = record { letters = w.letters; tags = w.tags; feet = w.feet ++ (f ∷ []) }

-- atoms behind the word w: the words that are done, and the one that may still grow
unfoldable pub done_words : List Atom → Word → List Word
done_words [] w = []
done_words (x ∷ xs) w = ended_by x w ++ done_words xs (going_on x w)

unfoldable pub open_word : List Atom → Word → Word
open_word [] w = w
open_word (x ∷ xs) w = open_word xs (going_on x w)

-- a word is put before others, or not
pick_before : (b : Bool) (w : Word) (ws : List Word) → pick b ws (w ∷ ws) ≡ pick b [] (w ∷ []) ++ ws
pick_before true w ws = refl
pick_before false w ws = refl

pub split_cons : (x : Atom) (xs : List Atom) (w : Word) → split (x ∷ xs) w ≡ ended_by x w ++ split xs (going_on x w)
unfolding split ended_by going_on
split_cons (ch c) xs w = refl
split_cons gap xs w = pick_before (is_blank w) w (split xs nothing_yet)
split_cons (tag l) xs w = refl
split_cons (foot f) xs w = refl

pub split_append : (xs ys : List Atom) (w : Word) → split (xs ++ ys) w ≡ done_words xs w ++ split ys (open_word xs w)
unfolding done_words open_word
split_append [] ys w = refl
split_append (x ∷ xs) ys w = rw (split_cons x (xs ++ ys) w, split_append xs ys (going_on x w), append_assoc)

pub done_words_append : (xs ys : List Atom) (w : Word) → done_words (xs ++ ys) w ≡ done_words xs w ++ done_words ys (open_word xs w)
unfolding done_words open_word
done_words_append [] ys w = refl
done_words_append (x ∷ xs) ys w = rw (done_words_append xs ys (going_on x w), append_assoc)

pub open_word_append : (xs ys : List Atom) (w : Word) → open_word (xs ++ ys) w ≡ open_word ys (open_word xs w)
unfolding open_word
open_word_append [] ys w = refl
open_word_append (x ∷ xs) ys w = open_word_append xs ys (going_on x w)

-- what is done, and at the end the open word unless it is blank
pub split_all : (xs : List Atom) (w : Word) → split xs w ≡ done_words xs w ++ ended_by gap (open_word xs w)
unfolding split ended_by
split_all xs w = ap (λ l. split l w) (sym (append-nil xs)) ∙ split_append xs [] w

-- nothing goes over a gap
pub split_gap : (xs ys : List Atom) (w : Word) → split (xs ++ (gap ∷ ys)) w ≡ split xs w ++ split ys nothing_yet
unfolding going_on
split_gap xs ys w = rw (split_append xs (gap ∷ ys) w, split_cons gap ys (open_word xs w), split_all xs w, append_assoc)

-- words that are made one
abbrev pub grown : Word → Word → Word
grown w v = record { letters = w.letters ++ v.letters; tags = w.tags ++ v.tags; feet = w.feet ++ v.feet }

unfoldable pub together : List Word → Word
together [] = nothing_yet
together (w ∷ ws) = grown w (together ws)

pub grown_nothing : (w : Word) → grown w nothing_yet ≡ w
grown_nothing w = simp append-nil

pub grown_grown : (u v w : Word) → grown (grown u v) w ≡ grown u (grown v w)
grown_grown u v w = simp append_assoc

pub together_append : (vs ws : List Word) → together (vs ++ ws) ≡ grown (together vs) (together ws)
unfolding together
together_append [] ws = refl
together_append (v ∷ vs) ws = ap (λ u. grown v u) (together_append vs ws) ∙ sym (grown_grown v (together vs) (together ws))

-- what atoms hold, gaps or not
unfoldable pub atom_word : Atom → Word
atom_word (ch c) = record { letters = c ∷ []; tags = []; feet = [] }
atom_word gap = nothing_yet
atom_word (tag l) = record { letters = []; tags = l ∷ []; feet = [] }
atom_word (foot f) = record { letters = []; tags = []; feet = f ∷ [] }

unfoldable pub word_of : List Atom → Word
word_of [] = nothing_yet
word_of (x ∷ xs) = grown (atom_word x) (word_of xs)

pub nothing_from_blank : (w : Word) → is_blank w ≡ true → nothing_yet ≡ w
unfolding is_blank
nothing_from_blank w e =
    let z : length w.letters + length w.tags + length w.feet ≡ 0 = eqb-true _ 0 e in
    let p : w.letters ≡ [] = nil_from_length w.letters (omega arith) in
    let q : w.tags ≡ [] = nil_from_length w.tags (omega arith) in
    let r : w.feet ≡ [] = nil_from_length w.feet (omega arith) in
    λ i. record { letters = sym p i; tags = sym q i; feet = sym r i }

-- ending a word loses nothing
together_ended : (w : Word) → together (ended_by gap w) ≡ w
unfolding together ended_by
together_ended w = pick_both (is_blank w) [] (w ∷ []) (λ ws. together ws ≡ w) (nothing_from_blank w) (λ _. grown_nothing w)

together_one : (x : Atom) (w : Word) → grown (together (ended_by x w)) (going_on x w) ≡ grown w (atom_word x)
unfolding together ended_by going_on atom_word
together_one (ch c) w = simp append-nil
together_one gap w = ap (λ u. grown u nothing_yet) (together_ended w)
together_one (tag l) w = simp append-nil
together_one (foot f) w = simp append-nil

-- all that atoms hold is in their words, in order
pub together_split : (xs : List Atom) (w : Word) → together (split xs w) ≡ grown w (word_of xs)
unfolding word_of split ended_by
together_split [] w = together_ended w ∙ sym (grown_nothing w)
together_split (x ∷ xs) w =
    ap together (split_cons x xs w) ∙ together_append (ended_by x w) (split xs (going_on x w))
    ∙ ap (λ u. grown (together (ended_by x w)) u) (together_split xs (going_on x w))
    ∙ sym (grown_grown (together (ended_by x w)) (going_on x w) (word_of xs))
    ∙ ap (λ u. grown u (word_of xs)) (together_one x w) ∙ grown_grown w (atom_word x) (word_of xs)

pub letters_word_of : (xs : List Atom) → (word_of xs).letters ≡ letters_of xs
unfolding word_of atom_word letters_of
letters_word_of [] = refl
letters_word_of (ch c ∷ xs) = ap (λ l. c ∷ l) (letters_word_of xs)
letters_word_of (gap ∷ xs) = letters_word_of xs
letters_word_of (tag l ∷ xs) = letters_word_of xs
letters_word_of (foot f ∷ xs) = letters_word_of xs

pub letters_together : (ws : List Word) → (together ws).letters ≡ flat_map (λ w. w.letters) ws
unfolding together
letters_together [] = refl
letters_together (w ∷ ws) = ap (λ l. w.letters ++ l) (letters_together ws)

pub tags_together : (ws : List Word) → (together ws).tags ≡ tags_of ws
unfolding together tags_of
tags_together [] = refl
tags_together (w ∷ ws) = ap (λ l. w.tags ++ l) (tags_together ws)

pub feet_together : (ws : List Word) → (together ws).feet ≡ feet_of ws
unfolding together feet_of
feet_together [] = refl
feet_together (w ∷ ws) = ap (λ l. w.feet ++ l) (feet_together ws)

-- where there is no gap, no word ends, and the open one grows by all that the atoms hold
unfoldable pub is_gap : Atom → Bool
is_gap (ch c) = false
is_gap gap = true
is_gap (tag l) = false
is_gap (foot f) = false

unfoldable pub gapless : List Atom → Bool
gapless [] = true
gapless (x ∷ xs) = not (is_gap x) && gapless xs

ended_by_none : (x : Atom) (w : Word) → is_gap x ≡ false → ended_by x w ≡ []
unfolding is_gap ended_by
ended_by_none (ch c) w e = refl
ended_by_none gap w e = absurd (true≢false e)
ended_by_none (tag l) w e = refl
ended_by_none (foot f) w e = refl

pub going_on_grown : (x : Atom) (w : Word) → is_gap x ≡ false → going_on x w ≡ grown w (atom_word x)
unfolding together
going_on_grown x w e = rw (ended_by_none x w e) at (together_one x w)

pub done_words_gapless : (xs : List Atom) (w : Word) → gapless xs ≡ true → done_words xs w ≡ []
unfolding gapless done_words
done_words_gapless [] w e = refl
done_words_gapless (x ∷ xs) w e =
    let h = and_parts (not (is_gap x)) (gapless xs) e in
    rw (ended_by_none x w (not-true (is_gap x) h.0)) (done_words_gapless xs (going_on x w) h.1)

pub open_word_gapless : (xs : List Atom) (w : Word) → gapless xs ≡ true → open_word xs w ≡ grown w (word_of xs)
unfolding gapless open_word word_of
open_word_gapless [] w e = sym (grown_nothing w)
open_word_gapless (x ∷ xs) w e =
    let h = and_parts (not (is_gap x)) (gapless xs) e in
    open_word_gapless xs (going_on x w) h.1 ∙ ap (λ u. grown u (word_of xs)) (going_on_grown x w (not-true (is_gap x) h.0))
    ∙ grown_grown w (atom_word x) (word_of xs)

pub split_gapless : (xs ys : List Atom) (w : Word) → gapless xs ≡ true → split (xs ++ ys) w ≡ split ys (grown w (word_of xs))
split_gapless xs ys w e = rw (split_append xs ys w, done_words_gapless xs w e, open_word_gapless xs w e)
