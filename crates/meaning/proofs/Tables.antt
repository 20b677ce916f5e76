-- A book looks the same under two tables of widths that agree on the space and on the letters which can be set.
use Rattle.std.proofs.Common.{◌≡◌, ℕ, zero, suc, ◌+◌, ◌-◌, ◌≤◌, Bool, true, eqb, ltb, List, [], ◌∷◌, ◌++◌, length, take, drop, refl, ap, ◌∙◌, ap₂, arith}
use Rattle.std.specs.List.{AllByRecursion as All}
use Rattle.std.proofs.ByRecursion.{All-take, All-drop, All-weaker}
use Rattle.meaning.specs.Text.{pick, Tokens, Atom, Definition, atoms}
use Rattle.meaning.specs.Lines.{Word, nothing_yet, split, long, place_letters, place_words, set_line, Line, set_lines, paragraph}
use Rattle.meaning.specs.Pages.{Looks, spaced, all_feet, fill, all_lines, pages, page_of, settle, book}
use Rattle.meaning.specs.Calls.{good}
use Rattle.meaning.proofs.Widths.{widths, natural_like}
use Rattle.meaning.proofs.Best.{best_like}
use Rattle.meaning.proofs.Drawn.{Drawn, DrawnFeet, DrawnWord, Letters, DefinedIn, Draws, spaced_drawn, words_drawn, DrawnLines, atoms_drawn, all_lines_drawn, Plain, plain_draws, good_letters, good_defined}

-- words and lines, with widths f and h
module _ (P : ℕ → Type 0) (f h : ℕ → ℕ) (space : f 32 ≡ h 32) (same : (c : ℕ) → P c → f c ≡ h c) where
  pub long_same : (cs : List ℕ) → All P cs → long f cs ≡ long h cs
  unfolding long
  long_same [] d = refl
  long_same (c ∷ cs) d = ap₂ ◌+◌ (same c d.0) (long_same cs d.1)

  widths_same : (ws : List Word) → All (DrawnWord P) ws → widths f ws ≡ widths h ws
  widths_same [] d = refl
  widths_same (w ∷ ws) d = ap₂ ◌∷◌ (long_same w.letters d.0.by_letters) (widths_same ws d.1)

  pub place_letters_same : (x : ℕ) (cs : List ℕ) → All P cs → place_letters f x cs ≡ place_letters h x cs
  unfolding place_letters
  place_letters_same x [] d = refl
  place_letters_same x (c ∷ cs) d = rw (same c d.0, place_letters_same (x + h c) cs d.1)

  pub place_words_same : (x : ℕ) (ws : List Word) (each extra : ℕ) → All (DrawnWord P) ws → place_words f x ws each extra ≡ place_words h x ws each extra
  unfolding place_words
  place_words_same x [] each extra d = refl
  place_words_same x (w ∷ ws) each extra d =
      rw (
        place_letters_same x w.letters d.0.by_letters,
        long_same w.letters d.0.by_letters,
        space,
        place_words_same (x + long h w.letters + h 32 + each + pick (ltb 0 extra) 1 0) ws each (extra - 1) d.1,
      )

  pub set_line_same : (w : ℕ) (l : List Word) (b : Bool) → All (DrawnWord P) l → set_line f w l b ≡ set_line h w l b
  unfolding set_line
  set_line_same w l b d =
      rw (natural_like f h l l space (widths_same l d)) (ap₂ (pick (eqb (length l - 1) 0)) (place_words_same 0 l 0 0 d) (place_words_same 0 l _ _ d))

  pub set_lines_same : (w : ℕ) (ws : List Word) (ks : List ℕ) → All (DrawnWord P) ws → set_lines f w ws ks ≡ set_lines h w ws ks
  unfolding set_lines
  set_lines_same w ws [] d = refl
  set_lines_same w ws (k ∷ ks) d =
      rw (set_line_same w (take k ws) (eqb (length ws) k) (All-take (DrawnWord P) k ws d), set_lines_same w (drop k ws) ks (All-drop (DrawnWord P) k ws d))

  pub paragraph_same : (w : ℕ) (xs : List Atom) → Drawn P xs → paragraph f w xs ≡ paragraph h w xs
  paragraph_same w xs d =
      let ws : List Word = split xs nothing_yet in
      let e : All (DrawnWord P) ws = words_drawn P xs d in
      rw (best_like f h w ws ws space (widths_same ws e)) (set_lines_same w ws _ e)

-- looks that agree on what can be set
pub record Alike (P : ℕ → Type 0) (g h : Looks) : Type 0 where
  pub same_across : g.across ≡ h.across
  pub same_rows : g.rows ≡ h.rows
  pub same_space : g.wide 32 ≡ h.wide 32
  pub same_wide : (c : ℕ) → P c → g.wide c ≡ h.wide c

module _ (P : ℕ → Type 0) (g h : Looks) (like : Alike P g h) where
  -- a paragraph of the text, or a note
  pub set_same : (xs : List Atom) → Drawn P xs → paragraph g.wide g.across xs ≡ paragraph h.wide h.across xs
  set_same xs d =
      paragraph_same P g.wide h.wide like.same_space like.same_wide g.across xs d ∙ ap (λ (w : ℕ). paragraph h.wide w xs) like.same_across

  pub all_feet_same : (fs : List (List ℕ)) → DrawnFeet P fs → all_feet g fs ≡ all_feet h fs
  unfolding all_feet
  all_feet_same [] d = refl
  all_feet_same (f ∷ fs) d = ap₂ ◌++◌ (set_same (spaced f) (spaced_drawn P f d.0)) (all_feet_same fs d.1)

  pub fill_same : (ls rs ns : List Line) → DrawnLines P ls → fill g ls rs ns ≡ fill h ls rs ns
  unfolding fill
  fill_same [] [] ns d = refl
  fill_same [] (a ∷ rs) ns d = refl
  fill_same (l ∷ ls) [] ns d = rw (all_feet_same l.feet d.0) (fill_same ls (l ∷ []) (all_feet h l.feet) d.1)
  fill_same (l ∷ ls) (a ∷ rs) ns d =
      rw (
        all_feet_same l.feet d.0,
        like.same_rows,
        fill_same ls ((a ∷ rs) ++ (l ∷ [])) (ns ++ all_feet h l.feet) d.1,
        fill_same ls (l ∷ []) (all_feet h l.feet) d.1,
      )

module _ (P : ℕ → Type 0) (draws : Draws P) (g h : Looks) (like : Alike P g h) (ds : List Definition) (defs : DefinedIn P ds) where
  pub all_lines_same : (pg : ℕ → ℕ) (ps : List Tokens) → All (Letters P) ps → all_lines g ds pg ps ≡ all_lines h ds pg ps
  unfolding all_lines
  all_lines_same pg [] l = refl
  all_lines_same pg (p ∷ ps) l = ap₂ ◌++◌ (set_same P g h like (atoms ds pg p) (atoms_drawn P draws ds pg p defs l.0)) (all_lines_same pg ps l.1)

  pub pages_same : (pg : ℕ → ℕ) (ps : List Tokens) → All (Letters P) ps → pages g ds pg ps ≡ pages h ds pg ps
  pages_same pg ps l =
      fill_same P g h like (all_lines g ds pg ps) [] [] (all_lines_drawn P draws g ds pg ps defs l) ∙ ap (λ (ls : List Line). fill h ls [] []) (all_lines_same pg ps l)

  pub settle_same : (k : ℕ) (ps : List Tokens) (pg : ℕ → ℕ) → All (Letters P) ps → settle k g ds ps pg ≡ settle k h ds ps pg
  unfolding settle
  settle_same zero ps pg l = rw (pages_same pg ps l)
  settle_same (suc k) ps pg l = rw (pages_same pg ps l, settle_same k ps (λ n. page_of n (pages h ds pg ps) 1) l)

  pub book_same : (ps : List Tokens) → All (Letters P) ps → book g ds ps ≡ book h ds ps
  book_same ps l = settle_same 8 ps (λ n. 0) l

-- so for what a stage takes the widths from 32 to 126 are enough
pub alike_plain : (g h : Looks) → g.across ≡ h.across → g.rows ≡ h.rows → ((c : ℕ) → 32 ≤ c → c ≤ 126 → g.wide c ≡ h.wide c) → Alike Plain g h
alike_plain g h a r w =
    record { same_across = a; same_rows = r; same_space = w 32 (omega arith) (omega arith); same_wide = λ c p. w c (omega (arith, p.0)) p.1 }

pub good_book_same :
    (g h : Looks) → Alike Plain g h → (can : ℕ → Bool) (n : ℕ) (ds : List Definition) (ps : List Tokens) → All (λ d. good can d.as_what n ≡ true) ds →
    All (λ p. good can p n ≡ true) ps → book g ds ps ≡ book h ds ps
good_book_same g h like can n ds ps gd gp =
    book_same Plain plain_draws g h like ds (good_defined can n ds gd) ps (All-weaker (λ p. good can p n ≡ true) (Letters Plain) (λ p. good_letters can p n) ps gp)
