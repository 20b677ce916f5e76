use Rattle.std.proofs.Common.{◌^◌, ◌<◌, length, get_or, ap, sym, ◌∙◌, arith, w64, SFits, rules}
use Rattle.std.proofs.lemmas.Bool.{ltb-true, ltb-false}
use Rattle.std.proofs.lemmas.Int.{to_z-of_z, to_z_pos}
use Rattle.exports.specs.Numbers.{refusing}
use Rattle.exports.proofs.Told.{told_length, told_refusal}
use Rattle.exports.proofs.told_number.Goals as goal
use Rattle.exports.proofs.told_number.Goals.{in_default-via-then-answer-lt6, in_default-via-in-len6+else-kind-from, in_default-via-else-answer-lt6+else-answer-lt7}

pub returns-in-len6 : goal.returns-in-len6
returns-in-len6 c a e =
    let bytes = c.args.answer.now in
    let fit : SFits w64 c.below_zero.result = search rules in
    to_z-of_z w64 c.below_zero.result fit
    ∙ (c.below_zero.ensures ∙ (ap (refusing (get_or bytes 1 0)) c.from_be_bytes.ensures ∙ told_refusal a bytes e (c.if-kind-from.true ∙ c.from.ensures)))

pub returns-in_default : goal.returns-in_default
returns-in_default c a e =
    let small : length c.args.answer.now < 2 ^ 63 = omega arith in
    to_z_pos w64 (length c.args.answer.now) small
    ∙ told_length a c.args.answer.now e
    (λ long one.
    elim c.in_default.branch [
      | in_default-via-then-answer-lt6 v ↦ omega (arith, ltb-true)
      | in_default-via-in-len6+else-kind-from v ↦ v.if-kind-from.false (one ∙ sym v.from.ensures)
      | in_default-via-else-answer-lt6+else-answer-lt7 v ↦ omega (arith, ltb-false)
    ])
