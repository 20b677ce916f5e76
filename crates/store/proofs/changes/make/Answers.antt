use Rattle.std.proofs.Common.{◌≡◌, ◌+◌, ◌-◌, ◌*◌, ◌++◌, length, get_or, drop, sym, ap, ap₂, ◌∙◌, lit≤, arith}
use Rattle.store.specs.Changes.{paragraphs_after, size_after, bytes_after}
use Rattle.store.specs.Edits.{bytes_come, counts_come, edit_in}
use Rattle.store.specs.Splices.{replaced}
use Rattle.store.proofs.Makes.{header_written, made_at, tokens_edited, entry_flat, rest_edited, come_bytes}
use Rattle.store.specs.Kept.{counts_within}
use Rattle.store.specs.declared.kept.Counts.{Counts}
use Rattle.store.specs.declared.kept.Kept.{Kept}
use Rattle.store.proofs.Looking.{within_parts}
use Rattle.store.proofs.changes.make.Goals as goal

pub returns : goal.returns
returns c =
    let ts = c.args.tokens.now in
    let rs = c.args.rest.now in
    let kept = c.args.kept in
    let r = c.args.replacement in
    let come = c.come-come.result in
    let w = within_parts _ kept.definitions kept.limits (sym c.if-not-within_limits.ensures) in
    let number : kept.paragraphs.entries ≡ get_or rs 4 0 = ap (λ k. k.paragraphs.entries) c.requires.same in
    let size : kept.paragraphs.size ≡ get_or rs 5 0 = ap (λ k. k.paragraphs.size) c.requires.same in
    let bytes : kept.paragraphs.bytes ≡ get_or rs 6 0 = ap (λ k. k.paragraphs.bytes) c.requires.same in
    let bulk_can : kept.limits.bulk ≡ get_or rs 3 0 = ap (λ k. k.limits.bulk) c.requires.same in
    let one : come.entries ≡ (counts_come r).entries = ap (λ n. n.entries) c.come-come.ensures in
    let long : come.size ≡ (counts_come r).size = ap (λ n. n.size) c.come-come.ensures in
    let many : come.bytes ≡ length (bytes_come r) = ap (λ n. n.bytes) c.come-come.ensures ∙ sym (come_bytes r.new) in
    let p : kept.paragraphs.entries - c.args.gone.entries + come.entries ≡ paragraphs_after (edit_in r) rs = omega arith in
    let s : c.saturating_add.result ≡ size_after (edit_in r) rs = omega (arith, w.sizes) in
    let b : kept.paragraphs.bytes - c.args.gone.bytes + come.bytes ≡ bytes_after (edit_in r) rs = omega arith in
    let start = c.entry_start.ensures ∙ ap (λ n. 64 + 4 * n) c.requires.paragraphs_before in
    let stop = c.entry_start-2.ensures ∙ ap₂ (λ n m. 64 + 4 * (n + m)) c.requires.paragraphs_before c.requires.paragraphs_gone in
    let flat = entry_flat r.at r.gone r.new _ _ _ c.entry-entry.ensures c.as_slice.ensures c.as_flattened.ensures.value in
    let first = rw c.unwrap.ensures at c.first_chunk_mut.ensures.cases in
    made_at ts rs c.splice.new.xs (c.write.new.header ++ drop 64 c.splice-2.new.xs) (edit_in r) c.requires.opened (omega arith) (omega arith)
    (ap₂ (λ (n : Counts) (k : Kept). counts_within n k.definitions k.limits) (λ i. record { entries = sym p i; size = sym s i; bytes = sym b i }) (sym c.requires.same) ∙ sym c.if-not-within_limits.ensures)
    (c.splice.ensures
    ∙ (ap (replaced 0 ts c.args.before.bytes (c.args.before.bytes + c.args.gone.bytes - c.args.before.bytes) (kept.paragraphs.bytes - (c.args.before.bytes + c.args.gone.bytes))) c.bytes.ensures
    ∙ tokens_edited (edit_in r) ts rs c.requires.bytes_before c.requires.bytes_gone bytes))
    (header_written 4 c.splice-2.new.xs c.unwrap.result.now c.write.new.header _ _ _ (lit≤ tt) first.enough first.same c.write.ensures
    ∙ rest_edited r rs c.splice-2.new.xs c.splice-2.ensures start stop (c.entry_start-3.ensures ∙ ap (λ n. 64 + 4 * n) number) flat p s b)
