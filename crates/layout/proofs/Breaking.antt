-- What the working part holds when a paragraph was broken into lines.
use Rattle.std.proofs.Common.{◌≡◌, ℕ, ◌+◌, ◌-◌, ◌*◌, ◌/◌, ◌≤◌, true, List, ◌++◌, length, take, drop, Some, None, Option, unwrap_or, sym, refl, ap, ◌∙◌, subst, arith}
use Rattle.std.specs.Option.{option_map}
use Rattle.std.proofs.lemmas.List.{length-append, length-take-le, length-drop, take_at, drop_at, drop-drop, take-take}
use Rattle.meaning.specs.Text.{Atom}
use Rattle.meaning.specs.Lines.{Word, nothing_yet, is_blank, split}
use Rattle.words.specs.Atoms.{numbers, decoded, all_plain}
use Rattle.words.specs.Reads.{found_within, with_atoms}
use Rattle.words.specs.Slots.{words_from, wide_by}
use Rattle.words.specs.Lined.{atoms_or_none, words_found, taken_by, Lined, BreaksInto}
use Rattle.words.specs.declared.lines.Taken.{Taken}
use Rattle.words.proofs.Decoding.{decoded_all, all_plain_stand}
use Rattle.linebreak.proofs.Paths.{lines_follow}
use Rattle.layout.specs.Rows.{letters_in}
use Rattle.layout.specs.Sheets.{working, paragraph_words, row_of, slots_of, InLines, Broken, Noted, Works}
use Rattle.layout.specs.declared.sheet.Sheet.{Sheet}
use Rattle.layout.proofs.Splitting.{split_letters_few, decoded_few}

pub in_lines :
    (s : Sheet) (row : List ℕ) (ws : List Word) (slots : List ℕ) → Lined (wide_by s.looks.widths) s.looks.width row ws slots → length row ≤ 4096 → s.looks.width ≤ 1000 →
    all_plain (decoded row) ≡ true → ws ≡ split (decoded row) nothing_yet → length ws ≤ length row → InLines s ws row slots
in_lines s row ws slots l few across plain words few_words =
    let many : length ws ≡ length slots / 8 = omega (arith, l.as_long) in
    record {
      as_many = l.as_long;
      few = few;
      few_words = few_words;
      across = across;
      words = l.words ∙ ap (λ (n : ℕ). words_from row slots 0 n) many;
      each = l.each;
      parts = l.lines;
      plain = plain;
      letters = omega (arith, ap letters_in words, split_letters_few (decoded row) nothing_yet, decoded_few row);
      follows = lines_follow (wide_by s.looks.widths) s.looks.width ws slots (length ws) refl l.solved;
    }

abbrev nothing_taken : Taken
nothing_taken = record { numbers = 0; words = 0 }

-- where nothing was read there are no words
taken_or_none : (found : Option (List Atom)) → unwrap_or (option_map taken_by found) nothing_taken ≡ taken_by (atoms_or_none found)
unfolding numbers split is_blank
taken_or_none None = refl
taken_or_none (Some xs) = refl

-- the atoms stand at the start of the row
numbers_first : (most : ℕ) (found : Option (List Atom)) (before : List ℕ) → numbers (atoms_or_none found) ≡ take (length (numbers (atoms_or_none found))) (with_atoms most found before)
unfolding numbers
numbers_first most None before = refl
numbers_first most (Some xs) before = sym (take_at (numbers xs) (drop (length (numbers xs)) before) (length (numbers xs)) refl)

-- the parts of the working part, of which the first was for atoms and the second for slots
module _
    (s : Sheet) (bytes before : List ℕ) (small : s.bulk ≤ 4096) (room : working s.bulk ≤ length before) (across : s.looks.width ≤ 1000)
    (read lined : List ℕ) (found : Option Taken) (t : Taken) (count : t ≡ unwrap_or found nothing_taken)
    (b : BreaksInto (wide_by s.looks.widths) s.looks.width (found_within (length (take s.bulk before)) bytes) (take s.bulk before) read (drop s.bulk before) lined found)
    (read_long : length read ≡ length (take s.bulk before))
  where
    abbrev xs : List Atom
    xs = atoms_or_none (found_within (length (take s.bulk before)) bytes)

    abbrev ws : List Word
    ws = words_found (found_within (length (take s.bulk before)) bytes)

    abbrev after : List ℕ
    after = read ++ lined

    row_long : length (take s.bulk before) ≡ s.bulk
    row_long = length-take-le s.bulk before (omega arith)

    taken : t ≡ taken_by xs
    taken = count ∙ ap (λ (o : Option Taken). unwrap_or o nothing_taken) b.count ∙ taken_or_none (found_within (length (take s.bulk before)) bytes)

    many_numbers : t.numbers ≡ length (numbers xs)
    many_numbers = ap (λ (u : Taken). u.numbers) taken

    many_words : t.words ≡ length ws
    many_words = ap (λ (u : Taken). u.words) taken

    row_there : row_of t after ≡ numbers xs
    row_there =
        ap (λ (k : ℕ). take k after) many_numbers
        ∙ sym (take-take (length (numbers xs)) (length read) after (omega (arith, b.room, read_long)))
        ∙ ap (take (length (numbers xs))) (take_at read lined (length read) refl ∙ b.atoms)
        ∙ sym (numbers_first (length (take s.bulk before)) (found_within (length (take s.bulk before)) bytes) (take s.bulk before))

    slots_behind : drop s.bulk after ≡ lined
    slots_behind = drop_at read lined s.bulk (read_long ∙ row_long)

    slots_there : slots_of s t after ≡ take (8 * length ws) lined
    slots_there = ap (take (8 * t.words)) slots_behind ∙ ap (λ (m : ℕ). take (8 * m) lined) many_words

    atoms_there : decoded (numbers xs) ≡ xs
    atoms_there = decoded_all xs (all_plain_stand xs b.plain)

    lines_there : InLines s ws (numbers xs) (take (8 * length ws) lined)
    lines_there =
        in_lines s (numbers xs) ws (take (8 * length ws) lined) b.lines (omega (arith, b.room, row_long)) across (ap all_plain atoms_there ∙ b.plain)
        (ap (λ (ys : List Atom). split ys nothing_yet) (sym atoms_there)) b.few

    after_long : length after ≡ length before
    after_long = omega (arith, length-append read lined, read_long, b.as_long, length-drop s.bulk before, row_long)

    paragraph_is : ws ≡ paragraph_words s bytes
    paragraph_is = ap (λ (m : ℕ). words_found (found_within m bytes)) row_long

    broken : Broken s (paragraph_words s bytes) after t
    broken =
        subst (λ (vs : List Word). Broken s vs after t) paragraph_is (record {
          numbers_few = omega (arith, many_numbers, b.room, row_long);
          words_few = omega (arith, many_words, b.few, b.room, row_long);
          room = omega (arith, after_long);
          lines = rw (row_there, slots_there) lines_there;
        })

    behind : drop (working s.bulk) after ≡ drop (working s.bulk) before
    behind =
        let m : ℕ = 8 * length ws in
        let left : ℕ = 16 * s.bulk - m in
        let most : m + left ≡ 16 * s.bulk = omega (arith, b.few, b.room, row_long) in
        let all : s.bulk + 16 * s.bulk ≡ working s.bulk = omega arith in
        let past : (ns : List ℕ) → drop left (drop m ns) ≡ drop (16 * s.bulk) ns = λ ns. drop-drop left m ns ∙ ap (λ k. drop k ns) most in
        let whole : (ns : List ℕ) → drop (16 * s.bulk) (drop s.bulk ns) ≡ drop (working s.bulk) ns = λ ns. drop-drop (16 * s.bulk) s.bulk ns ∙ ap (λ k. drop k ns) all in
        sym (whole after)
        ∙ ap (drop (16 * s.bulk)) slots_behind
        ∙ sym (past lined)
        ∙ ap (drop left) b.behind
        ∙ past (drop s.bulk before)
        ∙ whole before

    pub broken_and_kept : Broken s (paragraph_words s bytes) after t × (length after ≡ length before) × (drop (working s.bulk) after ≡ drop (working s.bulk) before)
    broken_and_kept = (broken, after_long, behind)

-- the working part in two: what is in front is read, and a part of the other is written
pub works :
    {s : Sheet} {work front back notes : List ℕ} (n : ℕ) → front ≡ take (9 * s.bulk) work → back ≡ drop (9 * s.bulk) work → working s.bulk ≤ length work → n ≤ s.bulk → Noted n back notes →
    Works s work (front ++ notes)
works {s} {work} {front} {back} {notes} n e f room few k =
    let front_long : length front ≡ 9 * s.bulk = ap length e ∙ length-take-le (9 * s.bulk) work (omega arith) in
    let back_long : length back ≡ length work - 9 * s.bulk = ap length f ∙ length-drop (9 * s.bulk) work in
    let left : 8 * n + (8 * s.bulk - 8 * n) ≡ 8 * s.bulk = omega (arith, few) in
    let past : (ns : List ℕ) → drop (8 * s.bulk - 8 * n) (drop (8 * n) ns) ≡ drop (8 * s.bulk) ns = λ ns. drop-drop (8 * s.bulk - 8 * n) (8 * n) ns ∙ ap (λ (m : ℕ). drop m ns) left in
    let all : 9 * s.bulk + 8 * s.bulk ≡ working s.bulk = omega arith in
    let same : drop (8 * s.bulk) notes ≡ drop (8 * s.bulk) back = sym (past notes) ∙ ap (drop (8 * s.bulk - 8 * n)) k.behind ∙ past back in
    record {
      as_long = omega (arith, length-append front notes, front_long, back_long, k.as_long, room);
      behind = ap (λ (m : ℕ). drop m (front ++ notes)) (sym all) ∙ sym (drop-drop-sum (9 * s.bulk) (8 * s.bulk) (front ++ notes)) ∙ ap (drop (8 * s.bulk)) (drop_at front notes (9 * s.bulk) front_long)
          ∙ same ∙ ap (drop (8 * s.bulk)) f ∙ drop-drop-sum (9 * s.bulk) (8 * s.bulk) work ∙ ap (λ (m : ℕ). drop m work) all;
    }
  where
    drop-drop-sum : (a b : ℕ) (ns : List ℕ) → drop b (drop a ns) ≡ drop (a + b) ns
    drop-drop-sum a b ns = drop-drop b a ns ∙ ap (λ (m : ℕ). drop m ns) (omega arith)
