use Rattle.std.proofs.Common.{codes, rules, arith}
use Rattle.text.specs.Calls.{verb_of}
use Rattle.text.proofs.Literals.{as_literal}
use Rattle.text.proofs.call.Verb.named.Goals as goal

pub returns-in-define : goal.returns-in-define
unfolding verb_of
returns-in-define c = as_literal verb_of c.args.word.now (codes "define") (omega arith) (search rules)
