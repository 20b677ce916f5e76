use Rattle.std.proofs.lemmas.Option.{MatchOption-at_some}
use Rattle.wire.proofs.Heads.{number_and_tokens}
use Rattle.wire.proofs.call.number_and_tokens.Goals as goal

pub returns-in-End : goal.returns-in-End
returns-in-End c =
    number_and_tokens _ c.in_ok-number.number _ (MatchOption-at_some _ _ _ c.in_ok-number.ensures.ok_part c.split_first_chunk.ensures.cases) _ (cc)
    c.in-End.ensures
