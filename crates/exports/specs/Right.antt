-- The promise on what other languages call: a book for which opening gave 0 answers as the text is.
use Rattle.std.specs.Prelude.{◌≡◌, ℕ, true, List, pos}
use Rattle.meaning.specs.Calls.{Call, answers, empty}
use Rattle.meaning.specs.Promise.{all_readable}
use Rattle.store.specs.declared.opening.Limits.{Limits}
use Rattle.store.specs.declared.opening.Looks.{Looks}
use Rattle.store.specs.Opened.{limits_of, looks_of}
use Rattle.session.specs.Whole.{replies, as_bytes}
use Rattle.exports.specs.Numbers.{OpensAs}

abbrev pub ExportsRight : Type 0
ExportsRight =
    (l : Limits) (g : Looks) (ts rs ts' rs' : List ℕ) (cs : List Call) → OpensAs l g ts rs ts' rs' (pos 0) → all_readable cs ≡ true →
    replies ts' rs' (as_bytes cs) ≡ answers (limits_of l) (looks_of g) empty cs
