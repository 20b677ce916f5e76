use Rattle.std.proofs.Common.{◌∷◌, ◌++◌, is_ok, sym, ap, ◌∙◌, subst}
use Rattle.std.proofs.Output.{has_written_of_eq, has_written_append}
use Rattle.text.specs.declared.rows.Letters.{Letters}
use Rattle.text.specs.Rows.{letter_text, placed, spaced, row_text, letters_of}
use Rattle.text.proofs.Printed.{Left, left_more, left_all}
use Rattle.text.proofs.rows.LettersDisplay.fmt.Goals as goal

pub loop-letter-preserved : goal.loop-letter-preserved
unfolding spaced
loop-letter-preserved g c =
    let took = g.W.Write.write_str_gives in
    let all = spaced (letters_of c.into_iter-letter-iterator.result.0.now) in
    left_more took _ _ _ _ (32 ∷ letter_text (placed c.in-Some-letter.letter)) (spaced (letters_of c.next-in-loop-letter.new.self.0.now)) _
    (subst (λ ps. Left took c.write.new.self c.loop-letter.f all (spaced ps)) c.in-Some-letter.ensures.steps c.loop-letter.invariant)
    c.write-in-loop-letter.ensures.writes (ap is_ok c.in_ok-write-2.was)

pub returns-clause-writes : goal.returns-clause-writes
unfolding spaced
returns-clause-writes g c plain ok =
    let took = g.W.Write.write_str_gives in
    let first = c.write.ensures.writes plain (ap is_ok c.in_ok-write.was) in
    let others = left_all took _ _ _ _ c.loop-letter.invariant (ap spaced c.in-None.ensures.steps.0) first.plain in
    let text =
    ap (λ (s : Letters). letter_text (placed c.in-Some.first) ++ spaced (letters_of s.0.now)) c.into_iter-letter-iterator.ensures.into_iter_gives
    ∙ sym (ap row_text c.in-Some.ensures.steps) in
    has_written_of_eq took _ _ _ _ text (has_written_append took _ _ _ _ _ first others)
