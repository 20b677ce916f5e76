use Rattle.std.proofs.Common.{◌≡◌, ℕ, ◌<◌, Ok, Err, Result}
use Rattle.std.specs.Result.{result_or}
use Rattle.std.proofs.lemmas.Option.{MatchOption-at_none, MatchOption-at_some}
use Rattle.std.proofs.lemmas.List.{nil_from_length}
use Rattle.wire.specs.Kinds.{CallByte}
use Rattle.wire.specs.declared.kind.CallKind.{CallKind}
use Rattle.wire.specs.declared.kind.NoKind.{NoKind}
use Rattle.wire.specs.declared.refusal.Unreadable.{Unreadable}
use Rattle.wire.proofs.Heads.{stops_first, no_byte, unknown_byte}
use Rattle.wire.proofs.call.read_call.Goals as goal

pub returns-in_err-byte : goal.returns-in_err-byte
returns-in_err-byte c =
    let empty = nil_from_length c.args.bytes.now (MatchOption-at_none _ _ c.in_err-byte.ensures.ok_part c.split_first.ensures.cases) in
    let same = rw c.in_err-byte.ensures.ok_part at c.in_err-byte.ensures.value in
    let at : c.in_err-byte.field-0.0.at ≡ 0 = cc in
    stops_first _ c.in_err-byte.field-0.0 _ (no_byte _ empty) at c.from_residual.ensures.1

no_kind : (x : ℕ) (k : Result CallKind NoKind) (n : ℕ) (stop : Unreadable) → Err stop ≡ result_or k (Err (record { at = n })) → CallByte x k → (6 < x) × (stop.at ≡ n)
no_kind x (Ok kind) n stop e h = absurd (cc)
no_kind x (Err none) n stop e h = (h, cc)

pub returns-in_err-kind : goal.returns-in_err-kind
returns-in_err-kind c =
    let front = MatchOption-at_some _ _ _ c.in_ok-byte.ensures.ok_part c.split_first.ensures.cases in
    let none = no_kind _ _ 0 c.in_err-kind.field-0.0 c.in_err-kind.ensures c.try_from.ensures in
    stops_first _ c.in_err-kind.field-0.0 _ (unknown_byte _ _ _ front.0 none.0) none.1 c.from_residual-in_err-kind.ensures.1
