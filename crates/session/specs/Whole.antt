-- The promise on the contracts of `open` and `call` themselves, in lent slices of any length.
--   replies         what rows of bytes are answered, one after another, each in what the one before left
--   SessionRight   after an opening that is done, calls are answered as the text that they leave is
use Rattle.std.specs.Prelude.{◌≡◌, ℕ, true, List, [], ◌∷◌, Ok}
use Rattle.meaning.specs.Calls.{Call, Answer, answers, empty}
use Rattle.meaning.specs.Promise.{all_readable}
use Rattle.wire.specs.Bytes.{call_bytes, reading}
use Rattle.store.specs.declared.opening.Limits.{Limits}
use Rattle.store.specs.declared.opening.Looks.{Looks}
use Rattle.store.specs.Opened.{limits_of, looks_of, rest_of, Opens}
use Rattle.session.specs.Answering.{reply, left_to}

unfoldable pub replies : List ℕ → List ℕ → List (List ℕ) → List Answer
replies ts rs [] = []
replies ts rs (bs ∷ more) = reply ts rs bs ∷ replies (left_to ts rs (reading bs) (λ m. m.tokens) ts) (left_to ts rs (reading bs) rest_of rs) more

unfoldable pub as_bytes : List Call → List (List ℕ)
as_bytes [] = []
as_bytes (c ∷ cs) = call_bytes c ∷ as_bytes cs

abbrev pub SessionRight : Type 0
SessionRight =
    (l : Limits) (g : Looks) (ts rs ts' rs' : List ℕ) (cs : List Call) → Opens l g ts rs ts' rs' (Ok tt) → all_readable cs ≡ true →
    replies ts' rs' (as_bytes cs) ≡ answers (limits_of l) (looks_of g) empty cs
