use Rattle.std.proofs.Common.{◌≡◌, ℕ, ◌-◌, ◌*◌, List, length, take, drop, ap, ◌∙◌, add_assoc, arith}
use Rattle.std.proofs.lemmas.List.{length-drop, take_rest}
use Rattle.wire.specs.Bytes.{over}
use Rattle.words.specs.Slots.{wide_by}
use Rattle.layout.proofs.Placing.{letters_at, word_bytes}
use Rattle.layout.proofs.Lining.{part_cut, worded_room, worded_more, worded_all}
use Rattle.layout.proofs.SetLines.{word_here, letters_few, words_few}
use Rattle.layout.proofs.line.Line.write_words.Goals as goal

pub write_word-letters-requires : goal.write_word-letters-requires
write_word-letters-requires c =
    let l = c.args.self.now in
    let p = l.paragraph in
    let v = c.from-word.result in
    let (there, value, lies) = word_here c.slots-slot-items.ensures l.within c.loop-slot-test.true c.from-word.ensures in
    let room = worded_room c.loop-slot.invariant v there value in
    let few = letters_few p l.words l.within in
    let words = words_few p l.words l.within in
    let at : ℕ = 5 * c.loop-slot.letters in
    let out = c.loop-slot.out in
    let part : length (take (length out - at) (drop at out)) ≡ length out - at = ap length (take_rest out at) ∙ length-drop at out in
    rw (part_cut p.row.now v) (
      omega (arith, room, part, c.requires.1, c.loop-slot.invariant.as_long),
      omega (arith, room, few, words, there, c.loop-slot.invariant.near),
    )

pub overflow_add-letters : goal.overflow_add-letters
overflow_add-letters c =
    let l = c.args.self.now in
    let (there, value, lies) = word_here c.slots-slot-items.ensures l.within c.loop-slot-test.true c.from-word.ensures in
    let room = worded_room c.loop-slot.invariant c.from-word.result there value in
    let many = ap (λ ns. length (letters_at ns)) (part_cut l.paragraph.row.now c.from-word.result) in
    omega (arith, room, many, letters_few l.paragraph l.words l.within, c.write_word-letters.ensures.value)

pub loop-slot-preserved : goal.loop-slot-preserved
loop-slot-preserved c =
    let l = c.args.self.now in
    let p = l.paragraph in
    let v = c.from-word.result in
    let (there, value, lies) = word_here c.slots-slot-items.ensures l.within c.loop-slot-test.true c.from-word.ensures in
    let at : ℕ = 5 * c.loop-slot.letters in
    let part : List ℕ = take (length c.loop-slot.out - at) (drop at c.loop-slot.out) in
    rw (add_assoc l.words.start c.loop-slot.slot-index 1) at
    (worded_more c.loop-slot.invariant v c.write_word-letters.result c.from-space.result c.first.result c.others-left.result c.write_word-letters.new.out (omega arith)
    there c.requires.1 c.requires.0 p.lines.few value lies (c.write_word-letters.ensures.value ∙ ap (λ ns. length (letters_at ns)) (part_cut p.row.now v))
    (c.from-space.ensures ∙ c.space.ensures) (omega arith) c.first.ensures c.others-left.ensures
    (c.write_word-letters.ensures.after ∙ ap (λ ns. over (word_bytes (wide_by p.sheet.now.looks.widths) c.loop-slot.x (letters_at ns)) part) (part_cut p.row.now v)))

pub returns-clause-value : goal.returns-clause-value
returns-clause-value c = (worded_all c.loop-slot.invariant (omega (arith, c.loop-slot-test.false, c.slots-slot-items.ensures.as_many))).0

pub returns-clause-after : goal.returns-clause-after
returns-clause-after c = (worded_all c.loop-slot.invariant (omega (arith, c.loop-slot-test.false, c.slots-slot-items.ensures.as_many))).1
