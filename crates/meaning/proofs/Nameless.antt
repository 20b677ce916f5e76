-- Texts without marks, page numbers and commands: wherever the pages are, they have the same lines, so they are at rest, and no name is on any page.
use Rattle.std.proofs.Common.{◌≡◌, ℕ, zero, suc, Bool, true, false, ◌&&◌, ◌||◌, ltb, List, [], ◌∷◌, ◌++◌, take, drop, refl, ap, ◌∙◌, ap₂}
use Rattle.std.specs.List.{AllByRecursion as All}
use Rattle.std.proofs.ByRecursion.{All-append, All-take, All-drop}
use Rattle.std.proofs.lemmas.Bool.{and_parts, both_ways, false≢true}
use Rattle.meaning.specs.Text.{Token, letter, space, mark, page_of, note, command, given, Tokens, none, more, Atom, ch, gap, tag, foot, plainly, flat_one, flat, Definition, meant, atoms}
use Rattle.meaning.specs.Lines.{Word, Line, nothing_yet, is_blank, split, tags_of, set_lines, paragraph}
use Rattle.meaning.specs.Pages
use Rattle.meaning.specs.Pages.{Looks, Page, fill, among, tagged, all_lines, pages, book}
use Rattle.meaning.specs.Calls.{good, good_one, no_page}
use Rattle.meaning.proofs.Picks.{pick_both}
use Rattle.meaning.proofs.Fills.{lines_of_fill}
use Rattle.meaning.proofs.Marks.{page_of_none}
use Rattle.meaning.proofs.Numbers.{NeedsNoNumbers, made_without_numbers, rest_without_numbers}
use Rattle.meaning.proofs.Reached.{GoodTokens}

-- kinds of tokens of which none has a name or asks for what is elsewhere
pub record Nameless (can : ℕ → Bool) : Type 0 where
  pub marks : can 2 ≡ false
  pub numbers : can 3 ≡ false
  pub commands : can 5 ≡ false
  pub given : can 6 ≡ false

abbrev Untagged : Atom → Type 0
Untagged (ch c) = Unit {0}
Untagged gap = Unit {0}
Untagged (tag l) = ⊥
Untagged (foot f) = Unit {0}

abbrev Unmarked : Word → Type 0
Unmarked w = w.tags ≡ []

-- words of such atoms have no mark, and so have lines of such words
split_unmarked : (xs : List Atom) (w : Word) → All Untagged xs → Unmarked w → All Unmarked (split xs w)
unfolding split
split_unmarked [] w h e = pick_both (is_blank w) [] (w ∷ []) (All Unmarked) (λ _. tt) (λ _. (e, tt))
split_unmarked (gap ∷ xs) w h e =
    let rest = split_unmarked xs nothing_yet h.1 refl in
    pick_both (is_blank w) (split xs nothing_yet) (w ∷ split xs nothing_yet) (All Unmarked) (λ _. rest) (λ _. (e, rest))
split_unmarked (ch c ∷ xs) w h e = split_unmarked xs _ h.1 e
split_unmarked (tag l ∷ xs) w h e = absurd h.0
split_unmarked (foot f ∷ xs) w h e = split_unmarked xs _ h.1 e

no_tags : (ws : List Word) → All Unmarked ws → tags_of ws ≡ []
unfolding tags_of
no_tags [] h = refl
no_tags (w ∷ ws) h = ap₂ (λ (a b : List ℕ). a ++ b) h.0 (no_tags ws h.1)

-- before other lines
unmarked_lines :
    (q : ℕ) (wide : ℕ → ℕ) (w : ℕ) (ws : List Word) (ks : List ℕ) (ls : List Line) → All Unmarked ws → tagged q ls ≡ false →
    tagged q (set_lines wide w ws ks ++ ls) ≡ false
unfolding set_lines tagged among
unmarked_lines q wide w ws [] ls h e = e
unmarked_lines q wide w ws (k ∷ ks) ls h e =
    ap (λ (ts : List ℕ). among q ts || tagged q (set_lines wide w (drop k ws) ks ++ ls)) (no_tags (take k ws) (All-take Unmarked k ws h))
    ∙ unmarked_lines q wide w (drop k ws) ks ls (All-drop Unmarked k ws h) e

cannot : (b c : Bool) → b ≡ false → (b && c) ≡ true → ⊥
cannot b c e h = both_ways b e (and_parts b c h).0

module _ (can : ℕ → Bool) (few : Nameless can) where
  mutual
    same_one :
        (t : Token) (d : ℕ) → good_one can t d ≡ true → (pg qg : ℕ → ℕ) (f h : ℕ → List Atom → List Atom) (xs ys : List Atom) →
        flat_one t pg f xs ≡ flat_one t qg h ys
    same_one (letter c) d g pg qg f h xs ys = refl
    same_one space d g pg qg f h xs ys = refl
    same_one (mark l) d g pg qg f h xs ys = refl
    same_one (page_of l) d g pg qg f h xs ys = absurd (cannot (can 3) (ltb l 256) few.numbers g)
    same_one (note ts) zero g pg qg f h xs ys = absurd (false≢true g)
    same_one (note ts) (suc d) g pg qg f h xs ys =
        ap (λ (zs : List Atom). foot (plainly zs) ∷ []) (same_flat ts d (and_parts (can 4) (good can ts d) g).1 pg qg f h xs ys)
    same_one (command k ts) zero g pg qg f h xs ys = absurd (false≢true g)
    same_one (command k ts) (suc d) g pg qg f h xs ys = absurd (cannot (can 5) (ltb k 256 && good can ts d) few.commands g)
    same_one given d g pg qg f h xs ys = absurd (both_ways (can 6) few.given g)

    same_flat :
        (ts : Tokens) (d : ℕ) → good can ts d ≡ true → (pg qg : ℕ → ℕ) (f h : ℕ → List Atom → List Atom) (xs ys : List Atom) →
        flat ts pg f xs ≡ flat ts qg h ys
    same_flat none d g pg qg f h xs ys = refl
    same_flat (more t ts) d g pg qg f h xs ys =
        let p = and_parts (good_one can t d) (good can ts d) g in
        ap₂ (λ (a b : List Atom). a ++ b) (same_one t d p.0 pg qg f h xs ys) (same_flat ts d p.1 pg qg f h xs ys)

  untagged_one : (t : Token) (d : ℕ) → good_one can t d ≡ true → (pg : ℕ → ℕ) (f : ℕ → List Atom → List Atom) (xs : List Atom) → All Untagged (flat_one t pg f xs)
  untagged_one (letter c) d g pg f xs = (tt, tt)
  untagged_one space d g pg f xs = (tt, tt)
  untagged_one (mark l) d g pg f xs = absurd (cannot (can 2) (ltb l 256) few.marks g)
  untagged_one (page_of l) d g pg f xs = absurd (cannot (can 3) (ltb l 256) few.numbers g)
  untagged_one (note ts) d g pg f xs = (tt, tt)
  untagged_one (command k ts) zero g pg f xs = absurd (false≢true g)
  untagged_one (command k ts) (suc d) g pg f xs = absurd (cannot (can 5) (ltb k 256 && good can ts d) few.commands g)
  untagged_one given d g pg f xs = absurd (both_ways (can 6) few.given g)

  untagged : (ts : Tokens) (d : ℕ) → good can ts d ≡ true → (pg : ℕ → ℕ) (f : ℕ → List Atom → List Atom) (xs : List Atom) → All Untagged (flat ts pg f xs)
  untagged none d g pg f xs = tt
  untagged (more t ts) d g pg f xs =
      let p = and_parts (good_one can t d) (good can ts d) g in
      All-append Untagged (flat_one t pg f xs) (flat ts pg f xs) (untagged_one t d p.0 pg f xs) (untagged ts d p.1 pg f xs)

  module _ (ds : List Definition) where
    pub same_atoms : (p : Tokens) → GoodTokens can p → (pg qg : ℕ → ℕ) → atoms ds pg p ≡ atoms ds qg p
    same_atoms p h pg qg = same_flat p 16 h pg qg (meant 16 ds pg) (meant 16 ds qg) [] []

    module _ (g : Looks) where
      same_lines : (ps : List Tokens) → All (GoodTokens can) ps → NeedsNoNumbers g ds ps
      unfolding all_lines
      same_lines [] goods pg qg = refl
      same_lines (p ∷ ps) goods pg qg =
          ap₂ (λ (xs : List Atom) (ls : List Line). paragraph g.wide g.across xs ++ ls) (same_atoms p goods.0 pg qg) (same_lines ps goods.1 pg qg)

      pub at_rest_nameless : (ps : List Tokens) → All (GoodTokens can) ps → (book g ds ps).at_rest ≡ true
      at_rest_nameless ps goods = rest_without_numbers 6 g ds ps (λ l. 0) (same_lines ps goods)

      pub made_nameless : (ps : List Tokens) → All (GoodTokens can) ps → (book g ds ps).made ≡ pages g ds (λ l. 0) ps
      made_nameless ps goods = made_without_numbers 8 g ds ps (λ l. 0) (λ l. 0) (same_lines ps goods)

      unmarked_all : (q : ℕ) (pg : ℕ → ℕ) (ps : List Tokens) → All (GoodTokens can) ps → tagged q (all_lines g ds pg ps) ≡ false
      unfolding all_lines tagged
      unmarked_all q pg [] goods = refl
      unmarked_all q pg (p ∷ ps) goods =
          let xs : List Atom = atoms ds pg p in
          unmarked_lines q g.wide g.across (split xs nothing_yet) _ (all_lines g ds pg ps)
          (split_unmarked xs nothing_yet (untagged p 16 goods.0 pg (meant 16 ds pg) []) refl) (unmarked_all q pg ps goods.1)

      pub none_marked : (ps : List Tokens) → All (GoodTokens can) ps → (q : ℕ) → Pages.page_of q (book g ds ps).made 1 ≡ 0
      none_marked ps goods q =
          let ls : List Line = all_lines g ds (λ l. 0) ps in
          ap (λ (bs : List Page). Pages.page_of q bs 1) (made_nameless ps goods)
          ∙ page_of_none q (fill g ls [] []) 1 (ap (tagged q) (lines_of_fill g ls no_page) ∙ unmarked_all q (λ l. 0) ps goods)
