-- Paragraphs are set each by itself: the lines of a text are those of its paragraphs, one after another.
use Rattle.std.proofs.Common.{◌≡◌, ℕ, List, [], ◌∷◌, ◌++◌, refl}
use Rattle.std.proofs.lemmas.List.{append_assoc}
use Rattle.meaning.specs.Text.{Tokens, Definition}
use Rattle.meaning.specs.Pages.{Looks, all_lines}
use Rattle.meaning.specs.Promise.{EachByItself}

pub all_lines_append : (g : Looks) (ds : List Definition) (pg : ℕ → ℕ) (ps qs : List Tokens) → all_lines g ds pg (ps ++ qs) ≡ all_lines g ds pg ps ++ all_lines g ds pg qs
unfolding all_lines
all_lines_append g ds pg [] qs = refl
all_lines_append g ds pg (p ∷ ps) qs = rw (all_lines_append g ds pg ps qs, append_assoc)

pub each_by_itself : EachByItself
unfolding EachByItself all_lines
each_by_itself g ds pg ps qs p = all_lines_append g ds pg ps (p ∷ qs)
