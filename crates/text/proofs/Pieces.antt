-- A text is cut at its first space, and spaces in front don't count.
use Rattle.std.proofs.Common.{◌≡◌, ℕ, ◌+◌, ◌<◌, Bool, true, false, cond, not, eqb, ltb, ◌≤◌, List, [], ◌∷◌, length, get_or, take, drop, Some, None, Option, MatchOption, length-drop, sym, refl, ap, ◌∙◌, one-add, arith}
use Rattle.std.specs.List.{prefix_len, position, between}
use Rattle.std.proofs.lemmas.List.{nil_from_length, take_rest}
use Rattle.std.proofs.lemmas.Bool.{eqb-false, ne_eqb, ltb-true, ltb-false}
use Rattle.text.specs.Words.{is_space, no_space, onto, pieces, first_piece, other_pieces, non_empty, words, first_word, behind_word, words_behind, parted_at, parted}

first_onto : (b : ℕ) (ps : List (List ℕ)) → first_piece (onto b ps) ≡ b ∷ first_piece ps
first_onto b [] = refl
first_onto b (p ∷ ps) = refl

others_onto : (b : ℕ) (ps : List (List ℕ)) → other_pieces (onto b ps) ≡ other_pieces ps
others_onto b [] = refl
others_onto b (p ∷ ps) = refl

pub take_word : (bs : List ℕ) → take (prefix_len no_space bs) bs ≡ first_word bs
unfolding first_word pieces
take_word [] = refl
take_word (b ∷ bs) = step (eqb b 32) (take_word bs)
  where
    step : (t : Bool) → take (prefix_len no_space bs) bs ≡ first_piece (pieces bs) → take (cond (not t) (1 + prefix_len no_space bs) 0) (b ∷ bs) ≡ first_piece (cond t ([] ∷ pieces bs) (onto b (pieces bs)))
    step true e = refl
    step false e = rw (one-add, first_onto b (pieces bs)) (ap (λ w. b ∷ w) e)

pub words_behind_word : (bs : List ℕ) → words (behind_word bs) ≡ words_behind bs
unfolding words words_behind behind_word pieces
words_behind_word [] = refl
words_behind_word (b ∷ bs) = step (eqb b 32) refl (words_behind_word bs)
  where
    step : (t : Bool) → eqb b 32 ≡ t → non_empty (pieces (drop (prefix_len no_space bs) bs)) ≡ non_empty (other_pieces (pieces bs)) →
        non_empty (pieces (drop (cond (not t) (1 + prefix_len no_space bs) 0) (b ∷ bs))) ≡ non_empty (other_pieces (cond t ([] ∷ pieces bs) (onto b (pieces bs))))
    step true e more = rw e refl
    step false e more = rw (one-add, others_onto b (pieces bs)) more

drop_spaces : (bs : List ℕ) → words (drop (prefix_len is_space bs) bs) ≡ words bs
unfolding words pieces
drop_spaces [] = refl
drop_spaces (b ∷ bs) = step (eqb b 32) refl (drop_spaces bs)
  where
    step : (t : Bool) → eqb b 32 ≡ t → non_empty (pieces (drop (prefix_len is_space bs) bs)) ≡ non_empty (pieces bs) →
        non_empty (pieces (drop (cond t (1 + prefix_len is_space bs) 0) (b ∷ bs))) ≡ non_empty (cond t ([] ∷ pieces bs) (onto b (pieces bs)))
    step true e more = rw one-add more
    step false e more = rw e refl

no_space_first : (bs : List ℕ) → get_or (drop (prefix_len is_space bs) bs) 0 0 ≡ 32 → ⊥
no_space_first [] e = omega arith
no_space_first (b ∷ bs) e = step (eqb b 32) refl (no_space_first bs) e
  where
    step : (t : Bool) → eqb b 32 ≡ t → (get_or (drop (prefix_len is_space bs) bs) 0 0 ≡ 32 → ⊥) → get_or (drop (cond t (1 + prefix_len is_space bs) 0) (b ∷ bs)) 0 0 ≡ 32 → ⊥
    step true s more = rw one-add more
    step false s more = eqb-false b 32 s

-- a text without its spaces in front
pub behind_spaces : (bs t : List ℕ) → t ≡ drop (prefix_len is_space bs) bs → (words bs ≡ words t) × (get_or t 0 0 ≡ 32 → ⊥)
behind_spaces bs t e = rw e (sym (drop_spaces bs), no_space_first bs)

pub words_none : words [] ≡ []
unfolding words pieces
words_none = refl

pub words_some : (bs : List ℕ) → 0 < length bs → (get_or bs 0 0 ≡ 32 → ⊥) → words bs ≡ first_word bs ∷ words_behind bs
unfolding words first_word words_behind pieces
words_some [] h first = absurd (let n : ⊥ = omega arith in n)
words_some (b ∷ bs) h first = rw (ne_eqb b 32 first) (step (pieces bs))
  where
    step : (ps : List (List ℕ)) → non_empty (onto b ps) ≡ first_piece (onto b ps) ∷ non_empty (other_pieces (onto b ps))
    step [] = refl
    step (p ∷ ps) = refl

pub parted_none : (bs : List ℕ) → drop (prefix_len is_space bs) bs ≡ [] → parted bs ≡ None
unfolding parted
parted_none bs e = ap parted_at e

pub parted_some : (bs t : List ℕ) → drop (prefix_len is_space bs) bs ≡ t → 0 < length t → parted bs ≡ Some (first_word t, behind_word t)
unfolding parted
parted_some bs [] e h = absurd (let n : ⊥ = omega arith in n)
parted_some bs (b ∷ t) e h = ap parted_at e

-- where a word starts, spaces come before it
spaces_len : (bs : List ℕ) → prefix_len (λ b. not (no_space b)) bs ≡ prefix_len is_space bs
spaces_len bs = λ i. prefix_len (λ b. back (is_space b) i) bs
  where
    back : (t : Bool) → not (not t) ≡ t
    back true = refl
    back false = refl

position_cases : (k len : ℕ) (t : Bool) → ltb k len ≡ t → (o : Option ℕ) → o ≡ cond t (Some k) None → MatchOption o (len ≤ k) (λ n. (k < len) × (n ≡ k))
position_cases k len true h None e = cc
position_cases k len true h (Some n) e = (ltb-true k len h, cc)
position_cases k len false h None e = ltb-false k len h
position_cases k len false h (Some n) e = cc

pub no_words : (bs : List ℕ) → None ≡ position no_space bs → (words bs ≡ []) × (parted bs ≡ None)
no_words bs e =
    let short = position_cases _ (length bs) _ refl None e in
    let none = nil_from_length (drop (prefix_len is_space bs) bs) (omega (arith, spaces_len bs, length-drop (prefix_len is_space bs) bs)) in
    ((behind_spaces bs _ refl).0 ∙ (ap words none ∙ words_none), parted_none bs none)

pub word_first :
    (bs : List ℕ) (n : ℕ) → Some n ≡ position no_space bs →
    (words bs ≡ first_word (between n (length bs) bs) ∷ words_behind (between n (length bs) bs))
    × (parted bs ≡ Some (first_word (between n (length bs) bs), behind_word (between n (length bs) bs)))
word_first bs n e =
    let found = position_cases _ (length bs) _ refl (Some n) e in
    let at : n ≡ prefix_len is_space bs = found.1 ∙ spaces_len bs in
    let t = between n (length bs) bs in
    let left : t ≡ drop (prefix_len is_space bs) bs = take_rest bs n ∙ ap (λ k. drop k bs) at in
    let some : 0 < length t = omega (arith, ap length left, spaces_len bs, length-drop (prefix_len is_space bs) bs) in
    let told = behind_spaces bs t left in
    (told.0 ∙ words_some t some told.1, parted_some bs t (sym left) some)
