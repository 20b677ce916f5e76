-- Words in slots, as a line is made from them.
--   words_of      the words of all slots
--   letters_in    how many letters words have
--   widths_from   what slots say of their widths, added up
--   shares        what room there is, shared among gaps
--   behind_first  the gaps behind the first one
use Rattle.std.specs.Prelude.{ℕ, zero, suc, ◌+◌, ◌-◌, ◌/◌, ◌%◌, List, [], ◌∷◌, length, ◌==◌}
use Rattle.meaning.specs.Text.{pick}
use Rattle.meaning.specs.Lines.{Word}
use Rattle.words.specs.Slots.{word_in, words_from}
use Rattle.layout.specs.declared.line.Gaps.{Gaps}

abbrev pub words_of : List ℕ → List ℕ → List Word
words_of row slots = words_from row slots 0 (length slots / 8)

unfoldable pub letters_in : List Word → ℕ
letters_in [] = 0
letters_in (w ∷ ws) = length w.letters + letters_in ws

unfoldable pub widths_from : List ℕ → ℕ → ℕ → ℕ
widths_from slots first zero = 0
widths_from slots first (suc n) = (word_in slots first).width + widths_from slots (first + 1) n

abbrev pub shares : ℕ → ℕ → Gaps
shares room gaps = pick (gaps == 0) (record { each = 0; extra = 0 }) (record { each = room / gaps; extra = room % gaps })

abbrev pub behind_first : Gaps → Gaps
behind_first g = record { each = g.each; extra = g.extra - 1 }
