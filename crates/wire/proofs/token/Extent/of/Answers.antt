use Rattle.std.proofs.Common.{sym, ap, ◌∙◌, arith}
use Rattle.std.proofs.lemmas.List.{nil_from_length}
use Rattle.wire.specs.Kinds.{token_byte}
use Rattle.wire.proofs.Levels.{level, depth_behind, deeper, no_end, as_deep, some_width, passed, missing, ends_here, nothing_here, all_read, left_open}
use Rattle.wire.proofs.token.Extent.of.Goals as goal

pub returns-in_default-try_from : goal.returns-in_default-try_from
returns-in_default-try_from c = nothing_here _ _ _ c.loop-rest.invariant.1 (omega arith) c.in_default-try_from.ensures

pub returns-in_default-behind : goal.returns-in_default-behind
returns-in_default-behind c = missing _ _ _ c.loop-rest.invariant.1 (omega arith) c.in-Ok.kind c.in-Ok.ensures c.in_default-behind.ensures

pub returns-in-End : goal.returns-in-End
returns-in-End c = ends_here _ _ _ c.loop-rest.invariant.1 (omega arith) (sym c.in-Ok.ensures ∙ ap token_byte c.in-End.is) c.if-depth-eq0.true

pub loop-rest-preserved-in-Note : goal.loop-rest-preserved-in-Note
loop-rest-preserved-in-Note c = (
  omega (arith, c.in-Some.ensures.0, some_width c.in-Ok.kind),
  ap (λ n. level n c.in-Some.behind.now) (sym (deeper c.in-Ok.kind c.loop-rest.depth c.in-Note.is))
      ∙ passed _ _ _ c.loop-rest.invariant.1 (omega arith) c.in-Ok.kind c.in-Ok.ensures _ c.in-Some.ensures (λ e. absurd (no_end c.in-Ok.kind c.in-Note.is e)),
)

pub loop-rest-preserved-in-End-2 : goal.loop-rest-preserved-in-End-2
loop-rest-preserved-in-End-2 c = (
  omega (arith, c.in-Some.ensures.0, some_width c.in-Ok.kind),
  ap (λ k. level (depth_behind k c.loop-rest.depth) c.in-Some.behind.now) (sym c.in-End-2.is)
      ∙ passed _ _ _ c.loop-rest.invariant.1 (omega arith) c.in-Ok.kind c.in-Ok.ensures _ c.in-Some.ensures (λ _. omega (arith, c.if-depth-eq0.false)),
)

pub loop-rest-preserved : goal.loop-rest-preserved
loop-rest-preserved c = (
  omega (arith, c.in-Some.ensures.0, some_width c.in-Ok.kind),
  ap (λ n. level n c.in-Some.behind.now) (sym (as_deep c.in-Ok.kind c.loop-rest.depth c.in_default-kind.not-Note c.in_default-kind.not-Command c.in_default-kind.not-End))
      ∙ passed _ _ _ c.loop-rest.invariant.1 (omega arith) c.in-Ok.kind c.in-Ok.ensures _ c.in-Some.ensures (λ e. absurd (c.in_default-kind.not-End e)),
)

pub returns-then-depth-eq0-2 : goal.returns-then-depth-eq0-2
returns-then-depth-eq0-2 c = all_read _ c.loop-rest.rest.now _ c.loop-rest.invariant.1 (nil_from_length _ (omega arith)) c.if-depth-eq0-2.true

pub returns-else-depth-eq0-2 : goal.returns-else-depth-eq0-2
returns-else-depth-eq0-2 c = left_open _ c.loop-rest.rest.now _ c.loop-rest.invariant.1 (nil_from_length _ (omega arith)) c.if-depth-eq0-2.false
