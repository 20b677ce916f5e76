-- The numbers of a line's atoms: those of its words, and gaps between them.
use Rattle.std.proofs.Common.{◌≡◌, ℕ, zero, suc, ◌+◌, ◌-◌, ◌<◌, ◌≤◌, true, List, [], ◌∷◌, ◌++◌, take, drop, replicate, sym, refl, ap, ap₂, ◌∙◌, subst, arith}
use Rattle.std.proofs.lemmas.List.{append-nil, drop-drop}
use Rattle.meaning.specs.Text.{Atom, ch, gap, tag, foot}
use Rattle.meaning.specs.Lines.{feet_of}
use Rattle.words.specs.Atoms.{decoded, all_plain, notes_of}
use Rattle.words.specs.Slots.{word_in, part_of, words_from, Lies, Apart}
use Rattle.words.specs.Lined.{begins_at, ends_at, line_part, LinePart}
use Rattle.words.proofs.Decoding.{decoded_more, decoded_numbers, decoded_stands, plain_append}
use Rattle.words.proofs.Parting.{take_add}

notes_append : (xs ys : List Atom) → notes_of (xs ++ ys) ≡ notes_of xs ++ notes_of ys
unfolding notes_of
notes_append [] ys = refl
notes_append (ch c ∷ xs) ys = notes_append xs ys
notes_append (gap ∷ xs) ys = notes_append xs ys
notes_append (tag l ∷ xs) ys = notes_append xs ys
notes_append (foot f ∷ xs) ys = ap (λ (fs : List (List ℕ)). f ∷ fs) (notes_append xs ys)

gaps : ℕ → List Atom
gaps n = replicate n gap

notes_gaps : (n : ℕ) → notes_of (gaps n) ≡ []
unfolding gaps notes_of
notes_gaps zero = refl
notes_gaps (suc n) = notes_gaps n

plain_gaps : (n : ℕ) → all_plain (gaps n) ≡ true
unfolding gaps all_plain
plain_gaps zero = refl
plain_gaps (suc n) = plain_gaps n

decoded_gaps : (n : ℕ) (ns : List ℕ) → decoded (replicate n 32 ++ ns) ≡ gaps n ++ decoded ns
unfolding gaps
decoded_gaps zero ns = refl
decoded_gaps (suc n) ns = decoded_more gap (replicate n 32 ++ ns) refl ∙ ap (λ (xs : List Atom). gap ∷ xs) (decoded_gaps n ns)

module _ (wide : ℕ → ℕ) (row slots : List ℕ) (n : ℕ) (each : (k : ℕ) → k < n → Lies wide row (word_in slots k))
    (apart : (k : ℕ) → k + 1 < n → Apart row (word_in slots k) (word_in slots (k + 1)).first)
  where
    -- from word i, m more
    go : (m i : ℕ) → i + m < n → LinePart row slots i (i + suc m)
    unfolding words_from feet_of
    go zero i l =
        let one : i + 1 - i ≡ 1 = omega arith in
        let here : i + 1 - 1 ≡ i = omega arith in
        let same : line_part row slots i (i + 1) ≡ part_of row (word_in slots i) =
        ap (λ (k : ℕ). take (ends_at slots k - begins_at slots i) (drop (begins_at slots i) row)) here ∙ ap (λ (k : ℕ). take k (drop (begins_at slots i) row)) (omega arith)
        in
        let h = each i (omega arith) in
        record {
          forward = omega (arith, ap (ends_at slots) here);
          within = omega (arith, h.within, ap (ends_at slots) here);
          notes = ap (λ (k : ℕ). feet_of (words_from row slots i k)) one ∙ append-nil (notes_of (decoded (part_of row (word_in slots i)))) ∙ ap (λ (ns : List ℕ). notes_of (decoded ns)) (sym same);
          plain = λ p. ap (λ (ns : List ℕ). all_plain (decoded ns)) same ∙ h.plain p;
        }
    go (suc m) i l =
        let later = go m (i + 1) (omega arith) in
        let more : i + suc (suc m) - i ≡ suc (i + 1 + suc m - (i + 1)) = omega arith in
        let last : i + suc (suc m) - 1 ≡ i + 1 + suc m - 1 = omega arith in
        let h = each i (omega arith) in
        let a = apart i (omega arith) in
        let first : ℕ = begins_at slots i in
        let end : ℕ = ends_at slots i in
        let next : ℕ = begins_at slots (i + 1) in
        let stop : ℕ = ends_at slots (i + 1 + suc m - 1) in
        let mine : List ℕ = part_of row (word_in slots i) in
        let rest : List ℕ = line_part row slots (i + 1) (i + 1 + suc m) in
        let sum : stop - first ≡ (end - first) + ((next - end) + (stop - next)) = omega (arith, a.behind, later.forward) in
        let behind_mine : drop (end - first) (drop first row) ≡ drop end row = drop-drop (end - first) first row ∙ ap (λ (k : ℕ). drop k row) (omega arith) in
        let behind_gaps : drop (next - end) (drop end row) ≡ drop next row = drop-drop (next - end) end row ∙ ap (λ (k : ℕ). drop k row) (omega (arith, a.behind)) in
        let cut : line_part row slots i (i + suc (suc m)) ≡ mine ++ (replicate (next - end) 32 ++ rest) =
        ap (λ (k : ℕ). take (ends_at slots k - first) (drop first row)) last
        ∙ ap (λ (k : ℕ). take k (drop first row)) sum
        ∙ take_add (end - first) ((next - end) + (stop - next)) (drop first row)
        ∙ ap₂ (λ (xs ys : List ℕ). xs ++ ys) (ap (λ (k : ℕ). take k (drop first row)) (omega arith))
        (ap (take ((next - end) + (stop - next))) behind_mine ∙ take_add (next - end) (stop - next) (drop end row) ∙ ap₂ (λ (xs ys : List ℕ). xs ++ ys) a.gaps (ap (take (stop - next)) behind_gaps))
        in
        let atoms : decoded (line_part row slots i (i + suc (suc m))) ≡ decoded mine ++ (gaps (next - end) ++ decoded rest) =
        ap decoded (cut ∙ ap (λ (xs : List ℕ). xs ++ (replicate (next - end) 32 ++ rest)) (sym h.whole))
        ∙ decoded_numbers (decoded mine) (replicate (next - end) 32 ++ rest) (decoded_stands mine)
        ∙ ap (λ (xs : List Atom). decoded mine ++ xs) (decoded_gaps (next - end) rest)
        in
        record {
          forward = omega (arith, a.behind, later.forward, ap (ends_at slots) last);
          within = omega (arith, later.within, ap (ends_at slots) last);
          notes = ap (λ (k : ℕ). feet_of (words_from row slots i k)) more
              ∙ ap (λ (fs : List (List ℕ)). notes_of (decoded mine) ++ fs) later.notes
              ∙ sym (ap notes_of atoms ∙ notes_append (decoded mine) (gaps (next - end) ++ decoded rest)
              ∙ ap (λ (fs : List (List ℕ)). notes_of (decoded mine) ++ fs) (notes_append (gaps (next - end)) (decoded rest) ∙ ap (λ (fs : List (List ℕ)). fs ++ notes_of (decoded rest)) (notes_gaps (next - end))));
          plain = λ p. ap all_plain atoms ∙ plain_append (decoded mine) (gaps (next - end) ++ decoded rest) (h.plain p) (plain_append (gaps (next - end)) (decoded rest) (plain_gaps (next - end)) (later.plain p));
        }

    pub line_parts : (i j : ℕ) → i < j → j ≤ n → LinePart row slots i j
    line_parts i j l h =
        let there : i + suc (j - i - 1) ≡ j = omega arith in
        subst (LinePart row slots i) there (go (j - i - 1) i (omega arith))
