use Rattle.std.proofs.Common.{◌≡◌, codes, refl, rules, arith}
use Rattle.std.proofs.lemmas.Slice.Eq.{text_from_reads}
use Rattle.text.specs.Reading.{begins_book}
use Rattle.text.proofs.reader.begins_book.Goals as goal

pub returns-in-limits-default : goal.returns-in-limits-default
unfolding begins_book
returns-in-limits-default c =
    let limits : c.first_word.result.0.now ≡ codes "limits" = text_from_reads _ _ (omega arith) (search rules) in
    rw (← c.first_word.ensures.front, limits) refl
