use Rattle.std.proofs.Common.{◌+◌}
use Rattle.words.proofs.Parting.{seen_none, seen_more_there, seen_gap_there, split_done, room_for_one, splits_narrow}
use Rattle.words.proofs.split.split_words.Goals as goal

pub loop-atom-init : goal.loop-atom-init
loop-atom-init c =
    let (first, others) = c.default-word.ensures in
    rw c.into_iter-atom-iterator.ensures.into_iter_gives (seen_none (λ i. record { first = first i; numbers = others.0 i; width = others.1 i }))

pub loop-atom-preserved-in-Gap : goal.loop-atom-preserved-in-Gap
loop-atom-preserved-in-Gap c =
    let (first, others) = c.default.ensures in
    seen_gap_there c.loop-atom.invariant c.in-Some.ensures.steps c.numbers-at.ensures c.in-Gap.is c.requires.1 c.close_word-words.ensures.value c.close_word-words.ensures.after
    (λ i. record { first = c.loop-atom.at + c.numbers-at.result; numbers = others.0 i; width = others.1 i })

pub loop-atom-preserved : goal.loop-atom-preserved
loop-atom-preserved c =
    seen_more_there c.loop-atom.invariant c.in-Some.ensures.steps c.numbers-at.ensures c.in_default.not-Gap c.with_atom-word.ensures.value c.with_atom-word.ensures.narrow

pub returns-clause-words : goal.returns-clause-words
returns-clause-words c =
    split_done c.loop-atom.invariant c.close_word.ensures.value c.close_word.ensures.after (room_for_one c.loop-atom.invariant c.requires.1) c.in-None.ensures.steps.0

pub returns-clause-narrow : goal.returns-clause-narrow
returns-clause-narrow c =
    splits_narrow c.requires.0
    (split_done c.loop-atom.invariant c.close_word.ensures.value c.close_word.ensures.after (room_for_one c.loop-atom.invariant c.requires.1) c.in-None.ensures.steps.0)
