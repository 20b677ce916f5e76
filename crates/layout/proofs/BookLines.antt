-- The lines of the paragraphs in memory, one paragraph after another.
use Rattle.std.proofs.Common.{◌≡◌, ℕ, zero, suc, ◌+◌, ◌<◌, List, [], ◌∷◌, ◌++◌, length, get_or, sym, refl, ap, ◌∙◌, ap₂, arith}
use Rattle.std.proofs.lemmas.List.{map-append}
use Rattle.meaning.specs.Lines.{Line, Placed}
use Rattle.meaning.specs.Pages.{Looks, all_feet}
use Rattle.meaning.specs.Calls.{letters_of}
use Rattle.layout.specs.Sheets.{paragraph_lines}
use Rattle.layout.specs.Fills.{heights}
use Rattle.layout.specs.Books.{sheet_at, bytes_at, book_lines, lines_in}

-- paragraphs whose bytes stand in memory
pub lines_of_bytes :
    (ts rs : List ℕ) (ps : List (List ℕ)) (k n : ℕ) → length ps ≡ n → ((i : ℕ) → i < n → get_or ps i [] ≡ bytes_at ts rs (k + i)) → book_lines ts rs k n ≡ lines_in (sheet_at rs) ps
unfolding book_lines
lines_of_bytes ts rs [] k zero e h = refl
lines_of_bytes ts rs [] k (suc n) e h = absurd (omega arith)
lines_of_bytes ts rs (p ∷ ps) k zero e h = absurd (omega arith)
lines_of_bytes ts rs (p ∷ ps) k (suc n) e h =
    let here : k + 0 ≡ k = omega arith in
    let first : p ≡ bytes_at ts rs k = h 0 (omega arith) ∙ ap (bytes_at ts rs) here in
    let behind : (i : ℕ) → i < n → get_or ps i [] ≡ bytes_at ts rs (k + 1 + i) = λ i l. h (suc i) (omega arith) ∙ ap (bytes_at ts rs) (omega arith) in
    ap₂ (λ (a b : List Line). a ++ b) (ap (paragraph_lines (sheet_at rs)) (sym first)) (lines_of_bytes ts rs ps (k + 1) n (omega arith) behind)

pub heights_append : (g : Looks) (ls ms : List Line) → heights g (ls ++ ms) ≡ heights g ls ++ heights g ms
heights_append g ls ms = map-append (λ (l : Line). suc (length (all_feet g l.feet))) ls ms

pub letters_append : (ls ms : List Line) → letters_of (ls ++ ms) ≡ letters_of ls ++ letters_of ms
unfolding letters_of
letters_append [] ms = refl
letters_append (l ∷ ls) ms = ap (λ (rs : List (List Placed)). l.letters ∷ rs) (letters_append ls ms)
