-- Atoms that were split and broken, and a paragraph that was read before: what its slots are then.
use Rattle.std.proofs.Common.{◌≡◌, ℕ, zero, suc, ◌+◌, ◌*◌, ◌/◌, ◌<◌, ◌≤◌, true, List, ◌++◌, length, get_or, take, drop, Some, None, Option, sym, refl, ap, ◌∙◌, subst, add-zero, arith}
use Rattle.std.proofs.lemmas.List.{length-append, length-drop, length-take-le, get_or-take, take_at, drop_at}
use Rattle.meaning.specs.Text.{Atom}
use Rattle.meaning.specs.Lines
use Rattle.meaning.specs.Lines.{nothing_yet, is_blank, split, long}
use Rattle.wire.specs.Bytes.{tokens_of}
use Rattle.linebreak.specs.Slots.{Breaks, Leaves, Solved, Measured}
use Rattle.words.specs.Atoms.{numbers, decoded, all_plain, word_of}
use Rattle.words.specs.Reads.{stage_atoms, found_within, how_many, with_atoms, PlainIfAny, Reads}
use Rattle.words.specs.Slots.{slot_place, word_in, part_of, words_from, Lies, Apart, Splits}
use Rattle.words.specs.Lined.{Lined, BreaksRow, BreaksInto}
use Rattle.words.specs.declared.slots.Word.{Word}
use Rattle.words.proofs.Decoding.{decoded_all, all_plain_stand}
use Rattle.words.proofs.ReadingAtoms.{within_few}
use Rattle.words.proofs.Parting.{words_same}
use Rattle.words.proofs.LineParts.{line_parts}

pub length_words_from : (row slots : List ℕ) (first n : ℕ) → length (words_from row slots first n) ≡ n
unfolding words_from
length_words_from row slots first zero = refl
length_words_from row slots first (suc n) = ap suc (length_words_from row slots (first + 1) n)

pub word_at : (row slots : List ℕ) (first n k : ℕ) → k < n → get_or (words_from row slots first n) k nothing_yet ≡ word_of (decoded (part_of row (word_in slots (first + k))))
unfolding words_from
word_at row slots first zero k l = absurd (omega arith)
word_at row slots first (suc n) zero l = ap (λ (j : ℕ). word_of (decoded (part_of row (word_in slots j)))) (sym (add-zero first))
word_at row slots first (suc n) (suc k) l = word_at row slots (first + 1) n k (omega arith) ∙ ap (λ (j : ℕ). word_of (decoded (part_of row (word_in slots j)))) (omega arith)

module _
    {wide : ℕ → ℕ} {row start parted : List ℕ} {n : ℕ} (few : length row ≤ 4096) (room : 8 * length row ≤ length start) (s : Splits wide row start parted n)
    {space width : ℕ} (gap : space ≡ wide 32) {slots : List ℕ} (breaks : Breaks (take (8 * n) parted) slots (length (take (8 * n) parted) / 8) space width)
    (leaves : Leaves (take (8 * n) parted) slots (length (take (8 * n) parted) / 8))
  where
    abbrev ws : List Lines.Word
    ws = split (decoded row) nothing_yet

    as_many : length ws ≡ n
    as_many = ap length s.words ∙ length_words_from row parted 0 n

    cut_long : length (take (8 * n) parted) ≡ 8 * n
    cut_long = length-take-le (8 * n) parted (omega (arith, s.as_long, s.few))

    slots_long : length slots ≡ 8 * n
    slots_long = leaves.as_long ∙ cut_long

    -- the slots that were cut off are those of the words
    as_cut : length (take (8 * n) parted) / 8 ≡ n
    as_cut = omega (arith, cut_long)

    width_there : (k : ℕ) → k < n → get_or parted (8 * k + 2) 0 ≡ long wide (get_or ws k nothing_yet).letters
    width_there k l =
        (s.each k l).width
        ∙ sym (ap (λ (vs : List Lines.Word). long wide (get_or vs k nothing_yet).letters) s.words ∙ ap (λ (w : Lines.Word). long wide w.letters) (word_at row parted 0 n k l ∙ ap (λ (j : ℕ). word_of (decoded (part_of row (word_in parted j)))) (omega arith)))

    measured : Measured wide ws (take (8 * n) parted) n space
    measured = record { as_many = as_many; gap = gap; each = λ k l. get_or-take (8 * n) parted (8 * k + 2) 0 (omega arith) ∙ width_there k l }

    solved : Solved wide width ws slots n
    solved = (rw as_cut at breaks) wide ws measured

    -- what breaking lines leaves in a slot
    slot_kept : (k j : ℕ) → k < n → j < 3 → get_or slots (8 * k + j) 0 ≡ get_or parted (8 * k + j) 0
    slot_kept k j h l = leaves.others (8 * k + j) (λ i _. (λ e. omega arith, λ e. omega arith)) ∙ get_or-take (8 * n) parted (8 * k + j) 0 (omega arith)

    blank_kept : (k j : ℕ) → k < n → 5 ≤ j → j < 8 → get_or slots (8 * k + j) 0 ≡ 0
    blank_kept k j h low high =
        leaves.others (8 * k + j) (λ i _. (λ e. omega arith, λ e. omega arith))
        ∙ get_or-take (8 * n) parted (8 * k + j) 0 (omega arith)
        ∙ s.blank k j h (omega arith) high

    word_kept : (k : ℕ) → k < n → word_in slots k ≡ word_in parted k
    word_kept k h =
        let p : get_or slots (slot_place k) 0 ≡ get_or parted (slot_place k) 0 = rw add-zero at (slot_kept k 0 h (omega arith)) in
        let q = slot_kept k 1 h (omega arith) in
        let r = slot_kept k 2 h (omega arith) in
        λ i. record { first = p i; numbers = q i; width = r i }

    each : (k : ℕ) → k < n → Lies wide row (word_in slots k)
    each k l = subst (Lies wide row) (sym (word_kept k l)) (s.each k l)

    apart : (k : ℕ) → k + 1 < n → Apart row (word_in slots k) (word_in slots (k + 1)).first
    apart k l =
        subst (λ (v : Word). Apart row v (word_in slots (k + 1)).first) (sym (word_kept k (omega arith)))
        (subst (λ (v : Word). Apart row (word_in parted k) v.first) (sym (word_kept (k + 1) l)) (s.apart k l))

    lined : Lined wide width row ws slots
    lined =
        record {
          as_long = slots_long ∙ ap (λ m. 8 * m) (sym as_many);
          words = s.words ∙ words_same row parted slots 0 n (λ k _ l. sym (word_kept k (omega arith))) ∙ ap (words_from row slots 0) (sym as_many);
          each = λ k l. each k (omega (arith, as_many));
          lines = λ i j l h. line_parts wide row slots n each apart i j l (omega (arith, as_many));
          solved = subst (Solved wide width ws slots) (sym as_many) solved;
          blank = λ k j l low high. blank_kept k j (omega (arith, as_many)) low high;
        }

    pub broken_row : BreaksRow wide width row start (slots ++ drop (8 * n) parted) n
    broken_row =
        record {
          count = sym as_many;
          few = s.few;
          as_long = omega (arith, length-append slots (drop (8 * n) parted), slots_long, length-drop (8 * n) parted, s.as_long, s.few);
          lines = rw (take_at slots (drop (8 * n) parted) (8 * n) slots_long) lined;
          behind = drop_at slots (drop (8 * n) parted) (8 * n) slots_long ∙ s.behind;
        }

-- nothing was read
module _ (wide : ℕ → ℕ) (width : ℕ) where
  broken_none : (before row slots : List ℕ) → row ≡ with_atoms (length before) None before → BreaksInto wide width None before row slots slots None
  unfolding split is_blank all_plain numbers words_from
  broken_none before row slots e =
      record {
        count = refl;
        atoms = e;
        plain = refl;
        room = omega arith;
        few = omega arith;
        lines = record {
          as_long = refl;
          words = refl;
          each = λ k l. absurd (omega arith);
          lines = λ i j l h. absurd (omega arith);
          solved = record { costs = λ k l. absurd (omega arith); firsts = λ k l. absurd (omega arith) };
          blank = λ k j l _ _. absurd (omega arith);
        };
        as_long = refl;
        behind = refl;
      }

  none_found : (found : Option (List Atom)) → None ≡ how_many found → found ≡ None
  none_found None e = refl
  none_found (Some xs) e = cc

  pub not_broken : {bytes before row slots : List ℕ} → Reads bytes (length before) before row None → BreaksInto wide width (found_within (length before) bytes) before row slots slots None
  not_broken {bytes} {before} {row} {slots} r =
      let none : found_within (length before) bytes ≡ None = none_found (found_within (length before) bytes) r.count in
      subst (λ (found : Option (List Atom)). BreaksInto wide width found before row slots slots None) (sym none)
      (broken_none before row slots (r.holds ∙ ap (λ (found : Option (List Atom)). with_atoms (length before) found before) none))

-- atoms that were read: they stand at the start of the row
record HasRead (found : Option (List Atom)) (count most : ℕ) (before row : List ℕ) : Type 0 where
  atoms : List Atom
  value : found ≡ Some atoms
  as_many : count ≡ length (numbers atoms)
  plain : all_plain atoms ≡ true
  holds : row ≡ with_atoms most (Some atoms) before

has_read : (count most : ℕ) (before row : List ℕ) (found : Option (List Atom)) → Some count ≡ how_many found → row ≡ with_atoms most found before → PlainIfAny found → HasRead found count most before row
has_read count most before row None e h p = cc
has_read count most before row (Some xs) e h p = record { atoms = xs; value = refl; as_many = cc; plain = p; holds = h }

module _
    {bytes before row : List ℕ} {count : ℕ} (r : Reads bytes (length before) before row (Some count))
    {wide : ℕ → ℕ} {width : ℕ} {start after : List ℕ} {n : ℕ} (b : BreaksRow wide width (take count row) start after n)
  where
    there : HasRead (found_within (length before) bytes) count (length before) before row
    there = has_read count (length before) before row (found_within (length before) bytes) r.count r.holds r.plain

    abbrev xs : List Atom
    xs = there.atoms

    few : length (numbers xs) ≤ length before
    few = within_few (length before) (stage_atoms (tokens_of bytes)) xs there.value

    row_is : take count row ≡ numbers xs
    row_is = ap (take count) there.holds ∙ take_at (numbers xs) (drop (length (numbers xs)) before) count (sym there.as_many)

    atoms_are : decoded (take count row) ≡ xs
    atoms_are = ap decoded row_is ∙ decoded_all xs (all_plain_stand xs there.plain)

    abbrev found_words : List Lines.Word
    found_words = split xs nothing_yet

    same_words : split (decoded (take count row)) nothing_yet ≡ found_words
    same_words = ap (λ (ys : List Atom). split ys nothing_yet) atoms_are

    many : n ≡ length found_words
    many = b.count ∙ ap length same_words

    pub broken : BreaksInto wide width (found_within (length before) bytes) before row start after (Some (record { numbers = count; words = n }))
    broken =
        subst (λ (found : Option (List Atom)). BreaksInto wide width found before row start after (Some (record { numbers = count; words = n }))) (sym there.value) (record {
          count = λ i. Some (record { numbers = there.as_many i; words = many i });
          atoms = there.holds;
          plain = there.plain;
          room = few;
          few = omega (arith, many, b.few, ap length row_is);
          lines = subst (λ (m : ℕ). Lined wide width (numbers xs) found_words (take (8 * m) after)) many
              (subst (λ (ns : List ℕ). Lined wide width ns found_words (take (8 * n) after)) row_is
              (subst (λ (vs : List Lines.Word). Lined wide width (take count row) vs (take (8 * n) after)) same_words b.lines));
          as_long = b.as_long;
          behind = ap (λ (m : ℕ). drop (8 * m) after) (sym many) ∙ b.behind ∙ ap (λ (m : ℕ). drop (8 * m) start) many;
        })
