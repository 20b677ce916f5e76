use Rattle.text.specs.Rows.{letters_of, spaced}
use Rattle.text.proofs.Printed.{Left}
use Rattle.text.proofs.rows.LettersDisplay.fmt.Given as goal

abbrev pub invariant-loop-letter : goal.invariant-loop-letter
invariant-loop-letter g l = Left g.W.Write.write_str_gives l.initial.f l.f (spaced (letters_of l.initial.letter-iterator.0.now)) (spaced (letters_of l.letter-iterator.0.now))
