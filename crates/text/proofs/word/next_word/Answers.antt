use Rattle.std.proofs.Common.{◌∷◌, Some, sym, ◌∙◌}
use Rattle.text.proofs.Pieces.{no_words, word_first}
use Rattle.text.proofs.word.next_word.Goals as goal

pub returns-in_err-start : goal.returns-in_err-start
returns-in_err-start c =
    let none = no_words c.args.text.now c.in_err-start.ensures in
    rw c.from_residual.ensures (record { words = none.0; exact = sym none.1 })

pub returns : goal.returns
returns c =
    let first = word_first c.args.text.now c.in_ok-start.start c.in_ok-start.ensures in
    let word = c.first_word.ensures in
    record {
      words = first.0 ∙ (λ i. sym word.front i ∷ sym word.words i);
      exact = (λ i. Some (word.front i, word.back i)) ∙ sym first.1;
    }
