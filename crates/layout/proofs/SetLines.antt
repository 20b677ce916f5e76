-- A line set: its words placed, with the room shared among the gaps.
use Rattle.std.proofs.Common.{◌≡◌, ℕ, ◌+◌, ◌-◌, ◌*◌, ◌/◌, ◌%◌, ◌<◌, ◌≤◌, Bool, true, false, eqb, List, [], ◌++◌, length, get_or, take, drop, sym, refl, ap, ◌∙◌, ap₂, arith}
use Rattle.std.specs.Simd.{first_chunks}
use Rattle.std.specs.declared.ops.Range.{Range}
use Rattle.std.proofs.lemmas.List.{append_assoc, length-append, length-take-le, length-drop, get_or-take, get_or-drop, drop_at, drop-drop}
use Rattle.meaning.specs.Text.{pick}
use Rattle.meaning.specs.Lines.{Word, natural, place_words, set_line}
use Rattle.wire.specs.Bytes.{two, row_bytes, over}
use Rattle.words.specs.Slots.{slot_word, word_in, wide_by, Lies}
use Rattle.words.specs.Lined.{line_part}
use Rattle.words.specs.declared.slots.Word as Slot
use Rattle.words.proofs.Places.{slot_word_at}
use Rattle.words.proofs.Broken.{length_words_from}
use Rattle.layout.specs.Rows.{letters_in, shares}
use Rattle.layout.specs.Paragraphs.{line_words, line_widths, is_last, line_row, line_bytes, Within, SlotsOf}
use Rattle.layout.specs.declared.line.Gaps.{Gaps}
use Rattle.layout.specs.declared.line.Line.{Line}
use Rattle.layout.specs.declared.paragraph.BrokenParagraph.{BrokenParagraph}
use Rattle.wire.proofs.Answered.{length_letters_bytes}
use Rattle.layout.proofs.Writing.{written}
use Rattle.layout.proofs.Placing.{words_bytes, length_place_words}
use Rattle.layout.proofs.Lining.{EachLies, widths_le, natural_from}
use Rattle.layout.proofs.LineSteps.{how_many, letters_there}

set_line_by :
    (wide : ℕ → ℕ) (ws : List Word) (b : Bool) (g h : Gaps) →
    pick b (place_words wide 0 ws g.each g.extra) (place_words wide 0 ws h.each h.extra)
    ≡ place_words wide 0 ws (pick b g h).each (pick b g h).extra
set_line_by wide ws true g h = refl
set_line_by wide ws false g h = refl

pub set_line_shares :
    (wide : ℕ → ℕ) (w : ℕ) (ws : List Word) (is_last : Bool) (g : Gaps) →
    g ≡ shares (pick is_last 0 (w - natural wide ws)) (length ws - 1) →
    set_line wide w ws is_last ≡ place_words wide 0 ws g.each g.extra
unfolding set_line
set_line_shares wide w ws is_last g e =
    let room : ℕ = pick is_last 0 (w - natural wide ws) in
    let gaps : ℕ = length ws - 1 in
    set_line_by wide ws (eqb gaps 0) (record { each = 0; extra = 0 }) (record { each = room / gaps; extra = room % gaps })
    ∙ ap (λ (h : Gaps). place_words wide 0 ws h.each h.extra) (sym e)

pub length_set_line : (wide : ℕ → ℕ) (w : ℕ) (ws : List Word) (is_last : Bool) → length (set_line wide w ws is_last) ≡ letters_in ws
length_set_line wide w ws is_last =
    let g : Gaps = shares (pick is_last 0 (w - natural wide ws)) (length ws - 1) in
    ap length (set_line_shares wide w ws is_last g refl) ∙ length_place_words wide 0 ws g.each g.extra

pub length_line_bytes : (p : BrokenParagraph) (line : Range ℕ) → length (line_bytes p line) ≡ 2 + 5 * letters_in (line_words p line)
length_line_bytes p line =
    omega (arith, length_letters_bytes (line_row p line), length_set_line (wide_by p.sheet.now.looks.widths) p.sheet.now.looks.width (line_words p line) (is_last p line))

-- a row's start, written when what comes behind it stands there already
pub over_start : (n : ℕ) (xs ys out : List ℕ) → length xs ≡ n → n ≤ length out → xs ++ drop n (written n ys out) ≡ over (xs ++ ys) out
over_start n xs ys out e fits =
    let front : length (take n out) ≡ n = length-take-le n out fits in
    let long : n + length ys ≡ length (xs ++ ys) = omega (arith, e, length-append xs ys) in
    ap (λ (q : List ℕ). xs ++ q) (drop_at (take n out) (over ys (drop n out)) n front ∙ ap (λ (q : List ℕ). ys ++ q) (drop-drop (length ys) n out))
    ∙ sym (append_assoc xs ys (drop (n + length ys) out))
    ∙ ap (λ (m : ℕ). (xs ++ ys) ++ drop m out) long

-- the word of one of a line's slots
pub word_here :
    {p : BrokenParagraph} {line : Range ℕ} {slots : List (List ℕ)} {i : ℕ} {v : Slot.Word} →
    SlotsOf p line slots → Within p line → i < length slots → v ≡ slot_word (get_or slots i []) →
    (line.start + i < line.end) × (v ≡ word_in p.slots.now (line.start + i)) × Lies (wide_by p.sheet.now.looks.widths) p.row.now v
word_here {p} {line} {slots} {i} {v} s within l e =
    let value : v ≡ word_in p.slots.now (line.start + i) = e ∙ s.word i [] (omega (arith, s.as_many)) in
    let lies = p.lines.each (line.start + i) (omega (arith, s.as_many, within, how_many p.sheet.now p.row.now p.slots.now p.lines)) in
    (omega (arith, s.as_many), value, rw value lies)

-- a line's numbers, from where its first word begins to where its last one ends
pub record LineCut (l : Line) (first last : Slot.Word) : Type 0 where
  pub forward : first.first ≤ last.first + last.numbers
  pub within : last.first + last.numbers ≤ length l.paragraph.row.now
  pub few : length l.paragraph.row.now ≤ 4096
  pub part :
      take (last.first + last.numbers - first.first) (drop first.first l.paragraph.row.now)
      ≡ line_part l.paragraph.row.now l.paragraph.slots.now l.words.start l.words.end

pub line_cut :
    (l : Line) {chunks : List (List ℕ)} {first last : Slot.Word} → chunks ≡ first_chunks 8 (length l.paragraph.slots.now / 8) l.paragraph.slots.now →
    first ≡ slot_word (get_or chunks l.words.start []) → last ≡ slot_word (get_or chunks (l.words.end - 1) []) → LineCut l first last
line_cut l {chunks} {first} {last} e f g =
    let p = l.paragraph in
    let count : ℕ = length p.slots.now / 8 in
    let there : (k : ℕ) → k < count → slot_word (get_or chunks k []) ≡ word_in p.slots.now k =
    λ k h. ap (λ (cs : List (List ℕ)). slot_word (get_or cs k [])) e ∙ slot_word_at p.slots.now [] count k h
    in
    let first_is : first ≡ word_in p.slots.now l.words.start = f ∙ there l.words.start (omega (arith, l.within)) in
    let last_is : last ≡ word_in p.slots.now (l.words.end - 1) = g ∙ there (l.words.end - 1) (omega (arith, l.within)) in
    let parts = p.lines.parts l.words.start l.words.end l.within.0 (omega (arith, l.within, how_many p.sheet.now p.row.now p.slots.now p.lines)) in
    rw (first_is, last_is) (record { forward = parts.forward; within = parts.within; few = p.lines.few; part = refl })

module _ (p : BrokenParagraph) (line : Range ℕ) (within : Within p line) where
  abbrev gaps : ℕ
  gaps = line.end - line.start - 1

  each_lies : EachLies p.sheet.now.looks.widths p.row.now p.slots.now line.start (line.end - line.start)
  each_lies k l m = p.lines.each k (omega (arith, how_many p.sheet.now p.row.now p.slots.now p.lines))

  -- the slots of its words, cut out of all
  pub slots_cut :
      (chunks : List (List ℕ)) → chunks ≡ first_chunks 8 (length p.slots.now / 8) p.slots.now → length chunks ≡ length p.slots.now / 8 →
      SlotsOf p line (take (line.end - line.start) (drop line.start chunks))
  slots_cut chunks e many =
      record {
        as_many = length-take-le (line.end - line.start) (drop line.start chunks) (omega (arith, length-drop line.start chunks, many, within));
        word = λ k d l.
            ap slot_word
            (get_or-take (line.end - line.start) (drop line.start chunks) k d l ∙ get_or-drop line.start chunks k d ∙ ap (λ (cs : List (List ℕ)). get_or cs (line.start + k) d) e)
            ∙ slot_word_at p.slots.now d (length p.slots.now / 8) (line.start + k) (omega (arith, within));
      }

  pub letters_few : letters_in (line_words p line) ≤ 4096
  letters_few = letters_there p.sheet.now p.row.now p.slots.now p.lines line.start line.end within.1

  pub line_bytes_few : length (line_bytes p line) ≤ 20482
  line_bytes_few = omega (arith, length_line_bytes p line, letters_few)

  pub words_few : line.end - line.start ≤ 4096
  words_few = omega (arith, how_many p.sheet.now p.row.now p.slots.now p.lines, p.lines.few_words, p.lines.few, within)

  pub widths_le_line : line_widths p line ≤ 4096 * 1048576
  widths_le_line = omega (arith, widths_le p.sheet.now.looks.widths p.row.now p.slots.now line.start (line.end - line.start) p.lines.few each_lies, words_few)

  natural_line : natural (wide_by p.sheet.now.looks.widths) (line_words p line) ≡ line_widths p line + gaps * wide_by p.sheet.now.looks.widths 32
  natural_line = natural_from p.sheet.now.looks.widths p.row.now p.slots.now line.start (line.end - line.start) each_lies

  -- what a line's words are, with gaps of what room there is
  pub line_set :
      (width room : ℕ) (g : Gaps) → width ≡ line_widths p line →
      room ≡ pick (is_last p line) 0 (p.sheet.now.looks.width - (width + gaps * wide_by p.sheet.now.looks.widths 32)) → g ≡ shares room gaps →
      line_row p line ≡ place_words (wide_by p.sheet.now.looks.widths) 0 (line_words p line) g.each g.extra
  line_set width room g e f is =
      let wide : ℕ → ℕ = wide_by p.sheet.now.looks.widths in
      let natural_is : width + gaps * wide 32 ≡ natural wide (line_words p line) = ap (λ (n : ℕ). n + gaps * wide 32) e ∙ sym natural_line in
      let room_is : room ≡ pick (is_last p line) 0 (p.sheet.now.looks.width - natural wide (line_words p line)) =
      f ∙ ap (λ (n : ℕ). pick (is_last p line) 0 (p.sheet.now.looks.width - n)) natural_is
      in
      set_line_shares wide p.sheet.now.looks.width (line_words p line) (is_last p line) g
      (is ∙ ap₂ (λ (m n : ℕ). shares m (n - 1)) room_is (sym (length_words_from p.row.now p.slots.now line.start (line.end - line.start))))

  -- its bytes: first how many letters there are
  pub line_bytes_set :
      (letters : ℕ) (g : Gaps) → letters ≡ letters_in (line_words p line) →
      line_row p line ≡ place_words (wide_by p.sheet.now.looks.widths) 0 (line_words p line) g.each g.extra →
      line_bytes p line ≡ two letters ++ words_bytes (wide_by p.sheet.now.looks.widths) 0 (line_words p line) g.each g.extra
  line_bytes_set letters g e f =
      let wide : ℕ → ℕ = wide_by p.sheet.now.looks.widths in
      let ws : List Word = line_words p line in
      ap row_bytes f
      ∙ ap (λ (n : ℕ). two n ++ words_bytes wide 0 ws g.each g.extra) (length_place_words wide 0 ws g.each g.extra ∙ sym e)
