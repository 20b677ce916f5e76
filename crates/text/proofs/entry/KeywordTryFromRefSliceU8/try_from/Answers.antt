use Rattle.std.proofs.Common.{codes, rules, arith}
use Rattle.text.specs.Entries.{keyword_of}
use Rattle.text.proofs.Literals.{as_literal}
use Rattle.text.proofs.entry.KeywordTryFromRefSliceU8.try_from.Goals as goal

pub returns-in-limits : goal.returns-in-limits
unfolding keyword_of
returns-in-limits c = as_literal keyword_of c.args.word.now (codes "limits") (omega arith) (search rules)

pub returns-in-widths : goal.returns-in-widths
unfolding keyword_of
returns-in-widths c = as_literal keyword_of c.args.word.now (codes "widths") (omega arith) (search rules)
