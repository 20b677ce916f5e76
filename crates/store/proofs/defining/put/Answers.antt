use Rattle.std.proofs.Common.{◌≡◌, ◌+◌, ◌-◌, ◌*◌, ◌++◌, min, length, get_or, drop, sym, ap, ap₂, ◌∙◌, lit≤, arith}
use Rattle.store.specs.Kept.{counts_within}
use Rattle.store.specs.Counted.{largest}
use Rattle.store.specs.Splices.{replaced_last}
use Rattle.store.specs.Defines.{place_of, old_ones, sum_before, sum_with, counts_defined}
use Rattle.store.specs.Definitions.{defining_by}
use Rattle.store.specs.declared.kept.Counts.{Counts}
use Rattle.store.specs.declared.kept.Kept.{Kept}
use Rattle.store.proofs.Looking.{within_parts}
use Rattle.store.proofs.Makes.{header_written}
use Rattle.store.proofs.Defines.{put_so, tokens_put, rest_put}
use Rattle.store.proofs.defining.put.Goals as goal

pub returns : goal.returns
returns c =
    let ts = c.args.tokens.now in
    let rs = c.args.rest.now in
    let kept = c.args.kept in
    let d = defining_by c.args.definition in
    let w = within_parts kept.paragraphs _ kept.limits (sym c.if-not-within_limits.ensures) in
    let number : kept.definitions.entries ≡ get_or rs 7 0 = ap (λ k. k.definitions.entries) c.requires.same in
    let size : kept.definitions.size ≡ get_or rs 8 0 = ap (λ k. k.definitions.size) c.requires.same in
    let bytes : kept.definitions.bytes ≡ get_or rs 9 0 = ap (λ k. k.definitions.bytes) c.requires.same in
    let paragraphs_can : kept.limits.paragraphs ≡ get_or rs 0 0 = ap (λ k. k.limits.paragraphs) c.requires.same in
    let tokens_can : kept.limits.tokens ≡ get_or rs 1 0 = ap (λ k. k.limits.tokens) c.requires.same in
    let n : kept.definitions.entries - c.args.gone.entries + 1 ≡ (counts_defined d rs).entries = omega (arith, c.requires.entries_gone) in
    let s : c.saturating_add.result ≡ (counts_defined d rs).size = omega (arith, w.sizes, c.requires.size_with) in
    let b : kept.definitions.bytes - c.args.gone.bytes + length c.args.definition.bytes.now ≡ (counts_defined d rs).bytes = omega (arith, c.requires.bytes_before, c.requires.bytes_with) in
    let half = 2 * kept.limits.tokens in
    let front = c.front-front.result in
    let first = rw c.unwrap.ensures at c.first_chunk_mut.ensures.cases in
    put_so ts rs c.put_last.new.xs (c.write.new.header ++ drop 64 c.put_last-2.new.xs) d c.requires.opened
    (ap₂ (λ (m : Counts) (k : Kept). counts_within k.paragraphs m k.limits) (λ i. record { entries = sym n i; size = sym s i; bytes = sym b i }) (sym c.requires.same) ∙ sym c.if-not-within_limits.ensures)
    (c.put_last.ensures ∙ tokens_put d ts rs {start = half + c.args.before.bytes} {stop = half + c.args.before.bytes + c.args.gone.bytes} {end = half + kept.definitions.bytes} (omega (arith, c.requires.bytes_before)) (omega (arith, c.requires.bytes_with)) (omega arith))
    (header_written 7 c.put_last-2.new.xs c.unwrap.result.now c.write.new.header _ _ _ (lit≤ tt) first.enough first.same c.write.ensures
    ∙ rest_put d rs c.put_last-2.new.xs {start = front + 4 * c.args.before.entries} {stop = front + 4 * c.args.before.entries + 4 * c.args.gone.entries} {end = front + 4 * kept.definitions.entries} c.put_last-2.ensures (omega (arith, c.front-front.ensures, c.requires.entries_before)) (omega (arith, c.front-front.ensures, c.requires.entries_before, c.requires.entries_gone)) (omega (arith, c.front-front.ensures)) c.entry.ensures n s b)
