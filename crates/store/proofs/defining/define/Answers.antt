use Rattle.std.proofs.Common.{◌≡◌, ℕ, true, List, Some, None, Ok, Option, Result, length, sym, ap, ◌∙◌}
use Rattle.std.specs.Result.{result_ok}
use Rattle.wire.specs.declared.refusal.Refusal.{Refusal}
use Rattle.meaning.specs.Text.{pick}
use Rattle.meaning.proofs.Picks.{some_picked}
use Rattle.store.specs.Kept.{kept_at, is_open}
use Rattle.store.specs.declared.kept.Kept.{Kept}
use Rattle.store.proofs.Defines.{room_for_entries, redefines}
use Rattle.store.proofs.defining.define.Goals as goal

-- an open book that was let through
module _ (ts rs : List ℕ) {k : Kept} {o : Option Kept} {r : Result Kept Refusal} (of : o ≡ pick (is_open (length ts) rs) (Some (kept_at rs)) None) (ok : o ≡ result_ok r) (was : r ≡ Ok k) where
  looked : (is_open (length ts) rs ≡ true) × (k ≡ kept_at rs)
  looked = some_picked (is_open (length ts) rs) k (kept_at rs) (sym (ok ∙ ap result_ok was) ∙ of)

pub defined-entries-requires : goal.defined-entries-requires
defined-entries-requires c =
    let book = looked c.args.tokens.now c.args.rest.now c.look.ensures c.ok_or.ensures.ok_part c.in_ok-kept.was in
    room_for_entries c.args.tokens.now c.args.rest.now c.in_ok-kept.kept c.args.definition book.0 book.1

pub put-requires : goal.put-requires
put-requires c =
    let book = looked c.args.tokens.now c.args.rest.now c.look.ensures c.ok_or.ensures.ok_part c.in_ok-kept.was in
    redefines c.args.tokens.now c.args.rest.now c.in_ok-kept.kept c.args.definition book.0 book.1 c.defined-entries.ensures c.place-at.ensures c.from-gone.ensures c.of-before.ensures c.of-gone.ensures
