use Rattle.std.proofs.Common.{◌≡◌, ◌≤◌, List, ℕ, length, drop, sym, ap, ◌∙◌, subst}
use Rattle.std.specs.Simd.{first_chunks}
use Rattle.store.specs.Kept.{kept_at, entries_at}
use Rattle.store.specs.Paragraphs.{paragraphs_in}
use Rattle.store.specs.declared.kept.Kept.{Kept}
use Rattle.layout.proofs.OpenBooks.{sheet_of}
use Rattle.layout.proofs.book.Book.of.Goals as goal

entries_there : (front : List ℕ) {es : List (List ℕ)} {k : Kept} → k ≡ kept_at front → es ≡ first_chunks 4 k.paragraphs.entries (drop 64 front) → es ≡ entries_at front
unfolding entries_at
entries_there front kept given = given ∙ ap (λ (k : Kept). first_chunks 4 k.paragraphs.entries (drop 64 front)) kept

pub returns-clause-sheet : goal.returns-clause-sheet
returns-clause-sheet c = ap sheet_of c.requires.0.kept

pub returns-clause-paragraphs : goal.returns-clause-paragraphs
returns-clause-paragraphs c = c.new.ensures ∙ ap (paragraphs_in c.args.tokens.now) (entries_there c.args.front.now c.requires.0.kept c.entries.ensures)

pub invariant_of-result : goal.invariant_of-result
invariant_of-result c =
    let paragraphs = c.new.ensures ∙ ap (paragraphs_in c.args.tokens.now) (entries_there c.args.front.now c.requires.0.kept c.entries.ensures) in
    record {
      fits = record { bulk = c.requires.0.bulk; width = c.requires.0.width };
      room = c.requires.1;
      few = subst (λ (ps : List (List ℕ)). length ps ≤ 4096) (sym paragraphs) c.requires.0.all;
    }
