-- Calls that change nothing: questions, and those that are turned away.
use Rattle.std.proofs.Common.{◌≡◌, ◌<◌, eqb, ap, arith}
use Rattle.meaning.specs.Pages.{Looks}
use Rattle.meaning.specs.Calls.{Call, show, where_is, how_many, Limits, Text, changed, turned, after, answers}
use Rattle.meaning.specs.Promise.{TurnedAway, OnlyAsked}
use Rattle.std.proofs.lemmas.Bool.{ne_eqb}
use Rattle.meaning.proofs.Picks.{pick_same, pick_false}

pub only_asked : OnlyAsked
unfolding OnlyAsked changed
only_asked l g t k r n q =
    (pick_same (eqb (turned l g t (show k r n)) 0) t, pick_same (eqb (turned l g t (where_is q)) 0) t, pick_same (eqb (turned l g t how_many) 0) t)

-- the text after a call that is turned away is the text before
pub after_turned_away : (l : Limits) (g : Looks) (t : Text) (c : Call) → 0 < turned l g t c → after l g t c ≡ t
after_turned_away l g t c h = pick_false (eqb (turned l g t c) 0) (changed t c) t (ne_eqb (turned l g t c) 0 (λ e. omega arith))

pub turned_away : TurnedAway
unfolding TurnedAway
turned_away l g t c cs h = ap (λ u. answers l g u cs) (after_turned_away l g t c h)
