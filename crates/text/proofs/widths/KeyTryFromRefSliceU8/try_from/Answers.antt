use Rattle.std.proofs.Common.{codes, rules, arith}
use Rattle.text.specs.Widths.{key_of}
use Rattle.text.proofs.Literals.{as_literal}
use Rattle.text.proofs.widths.KeyTryFromRefSliceU8.try_from.Goals as goal

pub returns-in-others : goal.returns-in-others
returns-in-others c = (as_literal key_of c.args.word.now (codes "others") (omega arith) (search rules), tt)
