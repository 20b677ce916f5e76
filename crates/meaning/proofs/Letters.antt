-- Every letter of a paragraph is set once, in order.
use Rattle.std.proofs.Common.{◌≡◌, ℕ, ◌+◌, ◌-◌, Bool, eqb, ltb, List, [], ◌∷◌, ◌++◌, length, take, drop, sym, refl, ap, ◌∙◌}
use Rattle.std.proofs.lemmas.List.{append_assoc, take-append-drop}
use Rattle.meaning.specs.Text.{pick}
use Rattle.meaning.specs.Lines.{Word, nothing_yet, split, long, BreaksUp, best, Placed, place_letters, place_words, set_line, Line, set_lines}
use Rattle.meaning.specs.Promise.{set_of, all_set, LettersKept}
use Rattle.meaning.proofs.Picks.{pick_both}
use Rattle.meaning.proofs.Splits.{together, together_append, together_split, letters_word_of}
use Rattle.meaning.proofs.BestOfAll.{best_breaks_up}

pub set_of_append : (ps qs : List Placed) → set_of (ps ++ qs) ≡ set_of ps ++ set_of qs
unfolding set_of
set_of_append [] qs = refl
set_of_append (p ∷ ps) qs = ap (λ l. p.what ∷ l) (set_of_append ps qs)

pub all_set_append : (ls ms : List Line) → all_set (ls ++ ms) ≡ all_set ls ++ all_set ms
unfolding all_set
all_set_append [] ms = refl
all_set_append (l ∷ ls) ms = rw (all_set_append ls ms, append_assoc)

pub set_of_place_letters : (wide : ℕ → ℕ) (x : ℕ) (cs : List ℕ) → set_of (place_letters wide x cs) ≡ cs
unfolding set_of place_letters
set_of_place_letters wide x [] = refl
set_of_place_letters wide x (c ∷ cs) = ap (λ l. c ∷ l) (set_of_place_letters wide (x + wide c) cs)

pub set_of_place_words : (wide : ℕ → ℕ) (x : ℕ) (ws : List Word) (each extra : ℕ) → set_of (place_words wide x ws each extra) ≡ (together ws).letters
unfolding set_of place_words together
set_of_place_words wide x [] each extra = refl
set_of_place_words wide x (w ∷ ws) each extra =
    simp (set_of_append, set_of_place_letters, set_of_place_words wide (x + long wide w.letters + wide 32 + each + pick (ltb 0 extra) 1 0) ws each (extra - 1))

pub set_of_set_line : (wide : ℕ → ℕ) (w : ℕ) (l : List Word) (b : Bool) → set_of (set_line wide w l b) ≡ (together l).letters
unfolding set_line
set_of_set_line wide w l b =
    pick_both (eqb (length l - 1) 0) _ _ (λ ps. set_of ps ≡ (together l).letters) (λ _. set_of_place_words wide 0 l 0 0) (λ _. set_of_place_words wide 0 l _ _)

-- whatever the way to break
pub all_set_lines : (wide : ℕ → ℕ) (w : ℕ) (ws : List Word) (ks : List ℕ) → BreaksUp ws ks → all_set (set_lines wide w ws ks) ≡ (together ws).letters
unfolding BreaksUp all_set set_lines together
all_set_lines wide w [] [] h = refl
all_set_lines wide w [] (k ∷ ks) h = absurd h
all_set_lines wide w (x ∷ ws) [] h = absurd h
all_set_lines wide w (x ∷ ws) (k ∷ ks) h =
    let us : List Word = take k (x ∷ ws) in
    let vs : List Word = drop k (x ∷ ws) in
    rw (set_of_set_line wide w us (eqb (length (x ∷ ws)) k), all_set_lines wide w vs ks h.2)
    (ap (λ (u : Word). u.letters) (sym (together_append us vs) ∙ ap together (take-append-drop k (x ∷ ws))))

pub letters_kept : LettersKept
unfolding LettersKept
letters_kept wide w xs =
    let ws : List Word = split xs nothing_yet in
    all_set_lines wide w ws (best wide w ws).ks (best_breaks_up wide w ws)
    ∙ ap (λ (u : Word). u.letters) (together_split xs nothing_yet) ∙ letters_word_of xs
