-- The words of a line, one slot after the other: their widths added up, and their bytes written.
use Rattle.std.proofs.Common.{◌≡◌, ℕ, zero, suc, ◌+◌, ◌-◌, ◌*◌, ◌<◌, ◌≤◌, ltb, List, [], ◌∷◌, ◌++◌, length, take, drop, sym, ap, ◌∙◌, ap₂, suc-mul, zero-mul, arith}
use borrow.Rule.Slice.PartMut.{put_mid}
use Rattle.meaning.specs.Text.{pick}
use Rattle.meaning.specs.Lines
use Rattle.meaning.specs.Lines.{long, natural, place_words}
use Rattle.meaning.proofs.Picks.{pick_both}
use Rattle.wire.specs.Bytes.{letters_bytes, over}
use Rattle.words.specs.Atoms.{decoded, word_of}
use Rattle.words.specs.Slots.{word_in, part_of, words_from, wide_by, Lies}
use Rattle.words.specs.declared.slots.Word.{Word}
use Rattle.layout.specs.Rows.{letters_in, widths_from, behind_first}
use Rattle.layout.specs.declared.line.Gaps.{Gaps}
use Rattle.layout.proofs.Writing.{written, written_none, written_part, written_more, length_written}
use Rattle.layout.proofs.Placing.{letters_at, word_bytes, words_bytes, words_bytes_more, length_word_bytes}

-- the part of the row that the code cuts out for a word
pub part_cut : (row : List ℕ) (v : Word) → take (v.first + v.numbers - v.first) (drop v.first row) ≡ part_of row v
part_cut row v = ap (λ (n : ℕ). take n (drop v.first row)) (omega arith)

abbrev pub EachLies : List ℕ → List ℕ → List ℕ → ℕ → ℕ → Type 0
EachLies widths row slots first n = (k : ℕ) → first ≤ k → k < first + n → Lies (wide_by widths) row (word_in slots k)

module _ (widths row slots : List ℕ) where
  -- no word is wider than its row could be
  pub widths_le : (first n : ℕ) → length row ≤ 4096 → EachLies widths row slots first n → widths_from slots first n ≤ 1048576 * n
  unfolding widths_from
  widths_le first zero few h = omega arith
  widths_le first (suc n) few h =
      let here : Lies (wide_by widths) row (word_in slots first) = h first (omega arith) (omega arith) in
      omega (arith, here.narrow, here.within, few, widths_le (first + 1) n few (λ k l m. h k (omega arith) (omega arith)))

  natural_more :
      (first n : ℕ) → EachLies widths row slots first (suc n) →
      natural (wide_by widths) (words_from row slots first (suc n)) ≡ widths_from slots first (suc n) + n * wide_by widths 32
  unfolding natural words_from widths_from
  natural_more first zero h = omega (arith, (h first (omega arith) (omega arith)).width)
  natural_more first (suc n) h =
      let later : EachLies widths row slots (first + 1) (suc n) = λ k l m. h k (omega arith) (omega arith) in
      omega (arith, (h first (omega arith) (omega arith)).width, suc-mul n (wide_by widths 32), natural_more (first + 1) n later)

  -- a space between each two
  pub natural_from :
      (first n : ℕ) → EachLies widths row slots first n →
      natural (wide_by widths) (words_from row slots first n) ≡ widths_from slots first n + (n - 1) * wide_by widths 32
  unfolding natural words_from widths_from
  natural_from first zero h = omega (arith, zero-mul (wide_by widths 32))
  natural_from first (suc n) h =
      let gaps : suc n - 1 ≡ n = omega arith in
      natural_more first n h ∙ ap (λ (m : ℕ). widths_from slots first (suc n) + m * wide_by widths 32) (sym gaps)

-- the words before slot k are added up: what is left makes it the line
pub record Summed (slots : List ℕ) (first end k width : ℕ) : Type 0 where
  pub wide : width + widths_from slots k (end - k) ≡ widths_from slots first (end - first)

pub summed_more :
    {slots : List ℕ} {first end k width : ℕ} → Summed slots first end k width → (v : Word) → k < end → v ≡ word_in slots k →
    Summed slots first end (k + 1) (width + v.width)
unfolding widths_from
summed_more {slots} {first} {end} {k} {width} h v l e =
    let m : ℕ = end - (k + 1) in
    let left : end - k ≡ suc m = omega (arith, l) in
    let width_is : v.width ≡ (word_in slots k).width = ap (λ (u : Word). u.width) e in
    let wide_left : widths_from slots k (end - k) ≡ (word_in slots k).width + widths_from slots (k + 1) m =
    ap (λ (n : ℕ). widths_from slots k n) left
    in
    record { wide = omega (arith, h.wide, width_is, wide_left) }

pub summed_le : {slots : List ℕ} {first end k width : ℕ} → Summed slots first end k width → width ≤ widths_from slots first (end - first)
summed_le h = omega (arith, h.wide)

pub summed_all : {slots : List ℕ} {first end k width : ℕ} → Summed slots first end k width → end ≤ k → width ≡ widths_from slots first (end - first)
unfolding widths_from
summed_all {slots} {first} {end} {k} h l =
    let none_left : end - k ≡ 0 = omega (arith, l) in
    let wide_left : widths_from slots k (end - k) ≡ 0 = ap (λ (m : ℕ). widths_from slots k m) none_left in
    omega (arith, h.wide, wide_left)

-- the first gap is wider by one at most than the others
pub gap_le : (g : Gaps) → g.each + pick (ltb 0 g.extra) 1 0 ≤ g.each + 1
gap_le g = pick_both (ltb 0 g.extra) 1 0 (λ (n : ℕ). g.each + n ≤ g.each + 1) (λ _. omega arith) (λ _. omega arith)

-- the words before slot k are written, and x is where the next one begins: what is left to write makes it the line
pub record Worded (widths row slots : List ℕ) (first end : ℕ) (gaps : Gaps) (before out : List ℕ) (k letters x : ℕ) (left : Gaps) : Type 0 where
  pub bytes :
      written (5 * letters) (words_bytes (wide_by widths) x (words_from row slots k (end - k)) left.each left.extra) out
      ≡ over (words_bytes (wide_by widths) 0 (words_from row slots first (end - first)) gaps.each gaps.extra) before
  pub as_long : length out ≡ length before
  pub count : letters + letters_in (words_from row slots k (end - k)) ≡ letters_in (words_from row slots first (end - first))
  pub near : x ≤ 1048576 * (k - first)
  pub each : left.each ≡ gaps.each

module _ {widths row slots : List ℕ} {first end : ℕ} {gaps : Gaps} {before out : List ℕ} {k letters x : ℕ} {left : Gaps}
    (h : Worded widths row slots first end gaps before out k letters x left) where
  -- there is room for the word
  pub worded_room : (v : Word) → k < end → v ≡ word_in slots k → letters + length (letters_at (part_of row v)) ≤ letters_in (words_from row slots first (end - first))
  unfolding words_from letters_in
  worded_room v l e =
      let m : ℕ = end - (k + 1) in
      let later : end - k ≡ suc m = omega (arith, l) in
      let count_left : letters_in (words_from row slots k (end - k)) ≡ length (letters_at (part_of row (word_in slots k))) + letters_in (words_from row slots (k + 1) m) =
      ap (λ (j : ℕ). letters_in (words_from row slots k j)) later
      in
      omega (arith, h.count, count_left, ap (λ (u : Word). length (letters_at (part_of row u))) e)

  pub worded_more :
      (v : Word) (count space gap : ℕ) (others : Gaps) (part : List ℕ) → first ≤ k → k < end →
      5 * letters_in (words_from row slots first (end - first)) ≤ length before → gaps.each ≤ 1000 → length row ≤ 4096 →
      v ≡ word_in slots k → Lies (wide_by widths) row v → count ≡ length (letters_at (part_of row v)) → space ≡ wide_by widths 32 → space ≤ 255 →
      gap ≡ left.each + pick (ltb 0 left.extra) 1 0 → others ≡ behind_first left →
      part ≡ over (word_bytes (wide_by widths) x (letters_at (part_of row v))) (take (length out - 5 * letters) (drop (5 * letters) out)) →
      Worded widths row slots first end gaps before (put_mid (5 * letters) (length out - 5 * letters) out part)
      (k + 1) (letters + count) (x + (v.width + space + gap)) others
  unfolding words_from letters_in
  worded_more v count space gap others part from l fit wide_gaps few e lies count_is space_is small gap_is others_are g =
      let wide : ℕ → ℕ = wide_by widths in
      let m : ℕ = end - (k + 1) in
      let later : end - k ≡ suc m = omega (arith, l) in
      let mine : List ℕ = word_bytes wide x (letters_at (part_of row v)) in
      let next : ℕ = x + (v.width + space + gap) in
      let ws : List Lines.Word = words_from row slots (k + 1) m in
      let rest : List ℕ = words_bytes wide next ws others.each others.extra in
      let mine_long : length mine ≡ 5 * count = length_word_bytes wide x (letters_at (part_of row v)) ∙ ap (λ (j : ℕ). 5 * j) (sym count_is) in
      let room : 5 * letters + length mine ≤ length out = omega (arith, worded_room v l e, fit, mine_long, count_is, h.as_long) in
      let now : put_mid (5 * letters) (length out - 5 * letters) out part ≡ written (5 * letters) mine out = written_part (5 * letters) mine out part g in
      let next_is : x + long wide (letters_at (part_of row v)) + wide 32 + left.each + pick (ltb 0 left.extra) 1 0 ≡ next =
      omega (arith, lies.width, space_is, gap_is)
      in
      let bytes_left : words_bytes wide x (words_from row slots k (end - k)) left.each left.extra ≡ mine ++ rest =
      ap (λ (j : ℕ). words_bytes wide x (words_from row slots k j) left.each left.extra) later
      ∙ ap (λ (u : Word). words_bytes wide x (word_of (decoded (part_of row u)) ∷ ws) left.each left.extra) (sym e)
      ∙ words_bytes_more wide x (word_of (decoded (part_of row v))) ws left.each left.extra
      ∙ ap (λ (y : ℕ). mine ++ words_bytes wide y ws left.each (left.extra - 1)) next_is
      ∙ ap (λ (q : Gaps). mine ++ words_bytes wide next ws q.each q.extra) (sym others_are)
      in
      let count_left : letters_in (words_from row slots k (end - k)) ≡ length (letters_at (part_of row (word_in slots k))) + letters_in ws =
      ap (λ (j : ℕ). letters_in (words_from row slots k j)) later
      in
      let behind : 5 * (letters + count) ≡ 5 * letters + length mine = omega (arith, mine_long) in
      record {
        bytes =
            ap₂ (λ (j : ℕ) (o : List ℕ). written j rest o) behind now
            ∙ written_more out (5 * letters) mine rest room
            ∙ ap (λ (bs : List ℕ). written (5 * letters) bs out) (sym bytes_left)
            ∙ h.bytes;
        as_long = ap length now ∙ length_written (5 * letters) mine out room ∙ h.as_long;
        count = omega (arith, h.count, count_left, count_is, ap (λ (u : Word). length (letters_at (part_of row u))) e);
        near = omega (arith, h.near, from, lies.narrow, lies.within, few, small, gap_is, gap_le left, h.each, wide_gaps);
        each = ap (λ (q : Gaps). q.each) others_are ∙ h.each;
      }

  pub worded_all :
      end ≤ k →
      (letters ≡ letters_in (words_from row slots first (end - first)))
      × (out ≡ over (words_bytes (wide_by widths) 0 (words_from row slots first (end - first)) gaps.each gaps.extra) before)
  unfolding words_from letters_in letters_bytes place_words
  worded_all l =
      let none_left : end - k ≡ 0 = omega (arith, l) in
      let no_letters : letters_in (words_from row slots k (end - k)) ≡ 0 = ap (λ (j : ℕ). letters_in (words_from row slots k j)) none_left in
      let no_bytes : words_bytes (wide_by widths) x (words_from row slots k (end - k)) left.each left.extra ≡ [] =
      ap (λ (j : ℕ). words_bytes (wide_by widths) x (words_from row slots k j) left.each left.extra) none_left
      in (
        omega (arith, h.count, no_letters),
        sym (written_none (5 * letters) out)
            ∙ ap (λ (bs : List ℕ). written (5 * letters) bs out) (sym no_bytes)
            ∙ h.bytes,
      )
