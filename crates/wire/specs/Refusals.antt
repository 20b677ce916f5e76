-- The list of refusals: each case's number, and the place that it names.
--   refusal_number, refusal_place   what a refusal is told by
--   unreadable                      the refusal of bytes that cease to be a call
--   unreadable_text                 how the place where they cease to be one is told
use Rattle.std.specs.Prelude.{ℕ, List, ◌++◌, codes, decimal, min}
use Rattle.wire.specs.declared.refusal.Unreadable as Stops
use Rattle.wire.specs.declared.refusal.Refusal.{Refusal}
use Rattle.wire.specs.declared.refusal.Refusal.TheVariants.{Unreadable, Unfit, ShortTokens, ShortRest, BadOpening, NoParagraph, NoPage, NoRows, TooMuch}

abbrev pub refusal_number : Refusal → ℕ
refusal_number (Unreadable at) = 1
refusal_number Unfit = 2
refusal_number ShortTokens = 3
refusal_number ShortRest = 3
refusal_number BadOpening = 3
refusal_number (NoParagraph k) = 4
refusal_number (NoPage k) = 5
refusal_number (NoRows row) = 5
refusal_number TooMuch = 6

-- the byte, slice (0 tokens, 1 the rest, 2 neither), paragraph, page or row that is meant; 0 where there is nothing to name
abbrev pub refusal_place : Refusal → ℕ
refusal_place (Unreadable at) = at
refusal_place Unfit = 0
refusal_place ShortTokens = 0
refusal_place ShortRest = 1
refusal_place BadOpening = 2
refusal_place (NoParagraph k) = k
refusal_place (NoPage k) = k
refusal_place (NoRows row) = row
refusal_place TooMuch = 0

-- a place past four bytes is told as their last
abbrev pub unreadable : Stops.Unreadable → Refusal
unreadable stop = Unreadable (min stop.at 4294967295)

abbrev pub unreadable_text : Stops.Unreadable → List ℕ
unreadable_text stop = codes "no call from byte " ++ (decimal stop.at ++ codes " on")
