use Rattle.std.proofs.Common.{◌≡◌, min, take, sum_by, slice_index}
use Rattle.store.specs.Counted.{largest}
use Rattle.store.proofs.kept.Counts.of.Given as goal

abbrev pub invariant-loop-its_bytes : goal.invariant-loop-its_bytes
invariant-loop-its_bytes l =
    (l.size ≡ min (sum_by (λ e. slice_index e 1) (take l.its_bytes-index l.entries)) largest)
    × (l.bytes ≡ min (sum_by (λ e. slice_index e 0) (take l.its_bytes-index l.entries)) largest)
