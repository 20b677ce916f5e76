-- The elements of a row's chunks stand where they stood in the row.
use Rattle.std.proofs.Common.{◌≡◌, ℕ, zero, suc, ◌+◌, ◌*◌, ◌<◌, List, get_or, drop, ap, ◌∙◌, arith}
use Rattle.std.specs.Simd.{first_chunks}
use Rattle.std.proofs.lemmas.List.{get_or-take, get_or-drop}

pub chunk_at : (size count : ℕ) (d xs : List ℕ) (k i : ℕ) → k < count → i < size → get_or (get_or (first_chunks size count xs) k d) i 0 ≡ get_or xs (size * k + i) 0
chunk_at size zero d xs k i h l = absurd (omega arith)
chunk_at size (suc count) d xs zero i h l = get_or-take size xs i 0 l ∙ ap (λ j. get_or xs j 0) (omega arith)
chunk_at size (suc count) d xs (suc k) i h l =
    chunk_at size count d (drop size xs) k i (omega arith) l ∙ (get_or-drop size xs (size * k + i) 0 ∙ ap (λ j. get_or xs j 0) (omega arith))
