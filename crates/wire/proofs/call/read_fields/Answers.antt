use Rattle.std.proofs.Common.{refl}
use Rattle.meaning.specs.Calls.{put, define, put_in}
use Rattle.wire.specs.declared.call.Call.TheVariants.{Put, Cut, Define, Show, WhereIs, HowMany, PutIn}
use Rattle.wire.proofs.Heads.{fixed_stops, fixed_reads, tokens_stops, tokens_reads}
use Rattle.wire.proofs.call.read_fields.Goals as goal

pub returns-in_err-k-in-Put : goal.returns-in_err-k-in-Put
returns-in_err-k-in-Put c = tokens_stops c.in-Put.is _ put refl c.in_err-k-in-Put.ensures c.from_residual.ensures.1

pub returns-in_ok-k-in-Put : goal.returns-in_ok-k-in-Put
returns-in_ok-k-in-Put c = tokens_reads c.in-Put.is _ put (Put _ _) refl c.in_ok-k-in-Put.ensures refl (λ w. w)

pub returns-in_err-k-in-Define : goal.returns-in_err-k-in-Define
returns-in_err-k-in-Define c = tokens_stops c.in-Define.is _ define refl c.in_err-k-in-Define.ensures c.from_residual-in_err-k-in-Define.ensures.1

pub returns-in_ok-k-in-Define : goal.returns-in_ok-k-in-Define
returns-in_ok-k-in-Define c = tokens_reads c.in-Define.is _ define (Define _ _) refl c.in_ok-k-in-Define.ensures refl (λ w. w)

pub returns-in_err-k-in-PutIn : goal.returns-in_err-k-in-PutIn
returns-in_err-k-in-PutIn c = tokens_stops c.in-PutIn.is _ put_in refl c.in_err-k-in-PutIn.ensures c.from_residual-in_err-k-in-PutIn.ensures.1

pub returns-in_ok-k-in-PutIn : goal.returns-in_ok-k-in-PutIn
returns-in_ok-k-in-PutIn c = tokens_reads c.in-PutIn.is _ put_in (PutIn _ _) refl c.in_ok-k-in-PutIn.ensures refl (λ w. w)

pub returns-in_err-exactly-in-Cut : goal.returns-in_err-exactly-in-Cut
returns-in_err-exactly-in-Cut c = fixed_stops c.in-Cut.is _ 2 _ refl c.in_err-exactly-in-Cut.ensures c.from_residual-in_err-exactly-in-Cut.ensures.1

pub returns-in_ok-exactly-in-Cut : goal.returns-in_ok-exactly-in-Cut
returns-in_ok-exactly-in-Cut c =
    let (long, same) = c.in_ok-exactly-in-Cut.ensures in
    fixed_reads c.in-Cut.is _ 2 _ (Cut _) refl long (cc) tt

pub returns-in_err-p0-in-Show : goal.returns-in_err-p0-in-Show
returns-in_err-p0-in-Show c = fixed_stops c.in-Show.is _ 8 _ refl c.in_err-p0-in-Show.ensures c.from_residual-in_err-p0-in-Show.ensures.1

pub returns-in_ok-p0-in-Show : goal.returns-in_ok-p0-in-Show
returns-in_ok-p0-in-Show c =
    let (long, same) = c.in_ok-p0-in-Show.ensures in
    fixed_reads c.in-Show.is _ 8 _ (Show _ _ _) refl long (cc) tt

pub returns-in_err-exactly-in-WhereIs : goal.returns-in_err-exactly-in-WhereIs
returns-in_err-exactly-in-WhereIs c = fixed_stops c.in-WhereIs.is _ 2 _ refl c.in_err-exactly-in-WhereIs.ensures c.from_residual-in_err-exactly-in-WhereIs.ensures.1

pub returns-in_ok-exactly-in-WhereIs : goal.returns-in_ok-exactly-in-WhereIs
returns-in_ok-exactly-in-WhereIs c =
    let (long, same) = c.in_ok-exactly-in-WhereIs.ensures in
    fixed_reads c.in-WhereIs.is _ 2 _ (WhereIs _) refl long (cc) tt

pub returns-in_err-exactly-in-HowMany : goal.returns-in_err-exactly-in-HowMany
returns-in_err-exactly-in-HowMany c = fixed_stops c.in-HowMany.is _ 0 _ refl c.in_err-exactly-in-HowMany.ensures c.from_residual-in_err-exactly-in-HowMany.ensures.1

pub returns-in_ok-exactly-in-HowMany : goal.returns-in_ok-exactly-in-HowMany
returns-in_ok-exactly-in-HowMany c =
    let (long, same) = c.in_ok-exactly-in-HowMany.ensures in
    fixed_reads c.in-HowMany.is _ 0 _ HowMany refl long refl tt
