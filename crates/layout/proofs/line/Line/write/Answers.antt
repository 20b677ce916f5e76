use Rattle.std.proofs.Common.{◌≡◌, ℕ, ◌-◌, List, ◌++◌, drop, sym, ap, ap₂, refl, ◌∙◌, arith}
use Rattle.wire.specs.Bytes.{two, over}
use Rattle.words.specs.Slots.{wide_by}
use Rattle.layout.specs.Rows.{shares}
use Rattle.layout.specs.Paragraphs.{line_words, line_bytes}
use Rattle.layout.proofs.Writing.{written_part}
use Rattle.layout.proofs.Placing.{words_bytes}
use Rattle.layout.proofs.SetLines.{length_line_bytes, widths_le_line, line_set, line_bytes_set, over_start}
use Rattle.layout.proofs.line.Line.write.Goals as goal

pub room-room-requires : goal.room-room-requires
room-room-requires c = omega (arith, widths_le_line c.args.self.now.paragraph c.args.self.now.words c.args.self.now.within, c.width.ensures)

pub returns-clause-value : goal.returns-clause-value
returns-clause-value c = omega (arith, length_line_bytes c.args.self.now.paragraph c.args.self.now.words, c.write_words-letters.ensures.value)

pub returns-clause-after : goal.returns-clause-after
returns-clause-after c =
    let p = c.args.self.now.paragraph in
    let line = c.args.self.now.words in
    let out : List ℕ = c.args.out.now in
    let letters = c.write_words-letters.result in
    let gaps = c.sharing-gaps.result in
    let bytes : List ℕ = words_bytes (wide_by p.sheet.now.looks.widths) 0 (line_words p line) gaps.each gaps.extra in
    let count = c.saturating_sub.ensures ∙ ap (λ n. n - 1) c.len.ensures.value in
    let is_set =
    line_set p line c.args.self.now.within c.width.result c.room-room.result gaps c.width.ensures c.room-room.ensures
    (c.sharing-gaps.ensures ∙ ap (shares c.room-room.result) count)
    in
    let all : line_bytes p line ≡ two letters ++ bytes = line_bytes_set p line c.args.self.now.within letters gaps c.write_words-letters.ensures.value is_set in
    ap₂ (λ (start q : List ℕ). start ++ drop 2 q) (c.copy_from_slice.ensures.after ∙ c.row_start.ensures)
    (written_part 2 bytes out c.write_words-letters.new.out c.write_words-letters.ensures.after)
    ∙ over_start 2 (two letters) bytes out refl (omega (arith, c.requires))
    ∙ ap (λ bs. over bs out) (sym all)
