-- The widths of letters, as words name them.
--   key_of             whose width it is
--   pairs_of           words as pairs of a key and a width, in their order
--   named, others      the width that a letter's last pair gives it, and the one of letters that are not named
--   table, widths_of   the widths of the letters 32 to 126, from pairs and from words
--   blank, put, filled what the code keeps of the pairs so far, and what it makes of that
use Rattle.std.specs.Prelude.{ℕ, ◌+◌, ◌-◌, ◌≤◌, cond, ◌&&◌, List, [], ◌∷◌, map, replicate, Some, None, Ok, Err, codes, Option, Result, ◌==◌, nat_le, slice_index_or, slice_set}
use Rattle.std.specs.List.{range_with_len}
use Rattle.std.specs.Option.{unwrap_or}
use Rattle.std.specs.Str.{bytes_eq}
use Rattle.notation.specs.Steps.{then}
use Rattle.text.specs.declared.fault.Fault.{Fault}
use Rattle.text.specs.declared.fault.Fault.TheVariants.{NumberMissing, NoLetter}
use Rattle.text.specs.declared.widths.Key.{Key}
use Rattle.text.specs.declared.widths.Key.TheVariants.{Letter, Others}
use Rattle.text.specs.declared.widths.Table.{Table}
use Rattle.text.specs.Words.{number_of}

-- any letter but the space stands for itself
abbrev pub letter_of : List ℕ → Result Key Fault
letter_of [] = Err NoLetter
letter_of (b ∷ []) = cond (nat_le 33 b && nat_le b 126) (Ok (Letter b)) (Err NoLetter)
letter_of (b ∷ (c ∷ bs)) = Err NoLetter

abbrev pub key_of : List ℕ → Result Key Fault
key_of w = cond (bytes_eq w (codes "space")) (Ok (Letter 32)) (cond (bytes_eq w (codes "others")) (Ok Others) (letter_of w))

abbrev pub HasWidth : Key → Type 0
HasWidth (Letter c) = (32 ≤ c) × (c ≤ 126)
HasWidth Others = Unit {0}

unfoldable pub pairs_of : List (List ℕ) → Result (List (Key × ℕ)) Fault
pairs_of [] = Ok []
pairs_of (k ∷ []) = then (key_of k) (λ key. Err NumberMissing)
pairs_of (k ∷ (w ∷ ws)) = then (key_of k) (λ key. then (number_of 256 w) (λ n. then (pairs_of ws) (λ ps. Ok ((key, n) ∷ ps))))

unfoldable pub named : ℕ → List (Key × ℕ) → Option ℕ → Option ℕ
named c [] d = d
named c ((Letter k, n) ∷ ps) d = named c ps (cond (k == c) (Some n) d)
named c ((Others, n) ∷ ps) d = named c ps d

unfoldable pub others : List (Key × ℕ) → ℕ → ℕ
others [] d = d
others ((Letter k, n) ∷ ps) d = others ps d
others ((Others, n) ∷ ps) d = others ps n

-- the letter 32 + k at place k
abbrev pub table : List (Key × ℕ) → List ℕ
table ps = map (λ k. unwrap_or (named (32 + k) ps None) (others ps 0)) (range_with_len 0 95)

unfoldable pub widths_of : List (List ℕ) → Result (List ℕ) Fault
widths_of ws = then (pairs_of ws) (λ ps. Ok (table ps))

abbrev pub blank : Table
blank = record { letters = replicate 95 None; others = 0 }

abbrev pub put : Table → Key → ℕ → Table
put t (Letter c) n = record { letters = slice_set t.letters (c - 32) (Some n); others = t.others }
put t Others n = record { letters = t.letters; others = n }

abbrev pub filled : Table → List ℕ
filled t = map (λ k. unwrap_or (slice_index_or t.letters k None) t.others) (range_with_len 0 95)
