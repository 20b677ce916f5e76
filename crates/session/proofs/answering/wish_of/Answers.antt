use Rattle.std.proofs.Common.{subst}
use Rattle.wire.specs.Reads.{WholeTokens}
use Rattle.session.proofs.Wishes.{put_asks, put_in_asks, good_wished, unfit_wished, cut_wished, show_wished, show_unfit, find_wished, find_unfit, count_wished, define_wished}
use Rattle.session.proofs.answering.wish_of.Goals as goal
use Rattle.session.proofs.answering.wish_of.Goals.{in_default-via-in-Show+else-count-le-MOST_ROWS, in_default-via-in-WhereIs+else-name-le-LAST_NAME, in_default-via-in_default}

pub returns-in_err-content-in-Put : goal.returns-in_err-content-in-Put
returns-in_err-content-in-Put c = rw c.in-Put.is (unfit_wished (put_asks _) c.in-Put.bytes _ _ c.in_err-content-in-Put.ensures c.from_residual.ensures.1)

pub returns-in_ok-content-in-Put : goal.returns-in_ok-content-in-Put
returns-in_ok-content-in-Put c =
    rw c.in-Put.is (good_wished (put_asks _) c.in-Put.bytes _ (subst WholeTokens c.in-Put.is c.requires) c.in_ok-content-in-Put.ensures)

pub returns-in_err-content-in-PutIn : goal.returns-in_err-content-in-PutIn
returns-in_err-content-in-PutIn c =
    rw c.in-PutIn.is (unfit_wished (put_in_asks _) c.in-PutIn.bytes _ _ c.in_err-content-in-PutIn.ensures c.from_residual-in_err-content-in-PutIn.ensures.1)

pub returns-in_ok-content-in-PutIn : goal.returns-in_ok-content-in-PutIn
returns-in_ok-content-in-PutIn c =
    rw c.in-PutIn.is (good_wished (put_in_asks _) c.in-PutIn.bytes _ (subst WholeTokens c.in-PutIn.is c.requires) c.in_ok-content-in-PutIn.ensures)

pub returns-in-Cut : goal.returns-in-Cut
returns-in-Cut c = rw c.in-Cut.is (cut_wished c.in-Cut.k)

pub returns-in-Show : goal.returns-in-Show
returns-in-Show c = rw c.in-Show.is (show_wished c.in-Show.page c.in-Show.row c.in-Show.count c.if-count-le-MOST_ROWS.true)

pub returns-in-WhereIs : goal.returns-in-WhereIs
returns-in-WhereIs c = rw c.in-WhereIs.is (find_wished c.in-WhereIs.name c.if-name-le-LAST_NAME.true)

pub returns-in-HowMany : goal.returns-in-HowMany
returns-in-HowMany c = rw c.in-HowMany.is count_wished

pub returns-in_default : goal.returns-in_default
returns-in_default c =
    elim c.in_default.branch [
      | in_default-via-in-Show+else-count-le-MOST_ROWS w ↦ rw w.in-Show.is (show_unfit w.in-Show.page w.in-Show.row w.in-Show.count w.if-count-le-MOST_ROWS.false)
      | in_default-via-in-WhereIs+else-name-le-LAST_NAME w ↦ rw w.in-WhereIs.is (find_unfit w.in-WhereIs.name w.if-name-le-LAST_NAME.false)
      | in_default-via-in_default w ↦ rw w.in_default.is (define_wished w.in_default.field-0 _)
    ]
