use Rattle.std.proofs.Common.{◌<◌, ◌≤◌, length, subst, inl, inr, arith}
use Rattle.meaning.proofs.Picks.{none_picked}
use Rattle.store.proofs.Looking.{rest_short, header_fails, header_read, too_short, too_many, table_off, definitions_off, judged}
use Rattle.store.proofs.kept.open_book.Goals as goal
use Rattle.store.proofs.kept.open_book.Goals.{then-tokens-bytes_asked-via-then-tokens-bytes_asked, then-tokens-bytes_asked-via-else-tokens-bytes_asked+then-rest-rest_asked}

pub returns-in_err-first_chunk : goal.returns-in_err-first_chunk
returns-in_err-first_chunk c =
    let short : length c.args.rest.now < 64 = c.in_err-first_chunk.ensures.cases in
    rw c.from_residual.ensures (rest_short (length c.args.tokens.now) c.args.rest.now (omega arith))

pub returns-in_err-kept : goal.returns-in_err-kept
returns-in_err-kept c = rw c.from_residual-in_err-kept.ensures (header_fails _ _ c.in_ok-first_chunk.ensures.cases.same _ (none_picked _ _ c.in_err-kept.ensures))

pub returns-then-tokens-bytes_asked : goal.returns-then-tokens-bytes_asked
returns-then-tokens-bytes_asked c =
    too_short c.args.tokens.now (header_read _ _ c.in_ok-first_chunk.ensures.cases.same c.in_ok-kept.ensures)
    (elim c.then-tokens-bytes_asked.branch [
      | then-tokens-bytes_asked-via-then-tokens-bytes_asked w ↦ inl (subst (λ n. length c.args.tokens.now < n) c.bytes_asked.ensures w.if-tokens-bytes_asked.true)
      | then-tokens-bytes_asked-via-else-tokens-bytes_asked+then-rest-rest_asked w ↦ inr (subst (λ n. length c.args.rest.now < n) w.rest_asked.ensures w.if-rest-rest_asked.true)
    ])

pub returns-then-not-within_limits : goal.returns-then-not-within_limits
returns-then-not-within_limits c = too_many c.args.tokens.now (header_read _ _ c.in_ok-first_chunk.ensures.cases.same c.in_ok-kept.ensures) c.if-not-within_limits.ensures

pub returns-then-ne : goal.returns-then-ne
returns-then-ne c =
    table_off c.args.tokens.now (header_read _ _ c.in_ok-first_chunk.ensures.cases.same c.in_ok-kept.ensures) c.if-not-within_limits.ensures c.entries-entries.ensures c.of-2.ensures c.if-ne.ensures

pub returns-then-ne-2 : goal.returns-then-ne-2
returns-then-ne-2 c =
    definitions_off c.args.tokens.now (header_read _ _ c.in_ok-first_chunk.ensures.cases.same c.in_ok-kept.ensures) c.if-not-within_limits.ensures c.entries-entries.ensures c.of-2.ensures
    c.defined.ensures c.of-3.ensures c.if-ne-2.ensures

pub returns : goal.returns
returns c =
    judged c.args.tokens.now (header_read _ _ c.in_ok-first_chunk.ensures.cases.same c.in_ok-kept.ensures) c.if-not-within_limits.ensures c.entries-entries.ensures c.of-2.ensures c.defined.ensures c.of-3.ensures
    (subst (λ n. n ≤ length c.args.tokens.now) c.bytes_asked.ensures c.if-tokens-bytes_asked.false)
    (subst (λ n. n ≤ length c.args.rest.now) c.rest_asked.ensures c.if-rest-rest_asked.false)
    c.if-ne.ensures
    c.if-ne-2.ensures
