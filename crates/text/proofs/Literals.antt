-- What a function of a text gives for one that reads as a literal does.
use Rattle.std.proofs.Common.{◌≡◌, ℕ, List, length, sym, ap}
use Rattle.std.proofs.lemmas.Slice.Eq.{HasBytesAt, text_from_reads}

pub as_literal : {A : Type 0} (f : List ℕ → A) (text literal : List ℕ) → length text ≡ length literal → HasBytesAt text 0 literal → f literal ≡ f text
as_literal f text literal long reads = sym (ap f (text_from_reads text literal long reads))
