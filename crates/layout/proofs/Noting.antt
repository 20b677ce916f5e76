-- A note's text as atoms: letters and gaps alone.
use Rattle.std.proofs.Common.{◌≡◌, ℕ, ◌+◌, ◌-◌, ◌*◌, ◌≤◌, true, not, eqb, ltb, List, [], ◌∷◌, ◌++◌, length, take, drop, sym, refl, ap, ap₂, ◌∙◌, subst, inl, inr, arith}
use Rattle.std.proofs.lemmas.Bool.{eqb-true, and_from, and_parts, cases_Bool}
use Rattle.std.proofs.lemmas.List.{drop-drop}
use Rattle.meaning.specs.Text.{pick, Atom, ch, gap}
use Rattle.meaning.specs.Lines.{nothing_yet, split}
use Rattle.meaning.specs.Pages.{spaced}
use Rattle.meaning.specs.Promise.{all_below}
use Rattle.meaning.proofs.Picks.{pick_true, pick_false}
use Rattle.words.specs.Atoms.{numbers_of, numbers, decoded, is_plain, all_plain}
use Rattle.words.specs.Slots.{wide_by}
use Rattle.words.specs.Lined.{Lined, BreaksRow}
use Rattle.words.proofs.Decoding.{decoded_all, all_plain_stand}
use Rattle.layout.specs.Sheets.{NoteBroken}
use Rattle.layout.specs.declared.sheet.Sheet.{Sheet}
use Rattle.layout.proofs.Breaking.{in_lines}

letter_numbers : (c : ℕ) → numbers_of (pick (eqb c 32) gap (ch c)) ≡ c ∷ []
letter_numbers c =
    elim (cases_Bool (eqb c 32)) [
      | inl e ↦ ap numbers_of (pick_true (eqb c 32) gap (ch c) e) ∙ ap (λ (n : ℕ). n ∷ []) (sym (eqb-true c 32 e))
      | inr e ↦ ap numbers_of (pick_false (eqb c 32) gap (ch c) e)
    ]

numbers_spaced : (f : List ℕ) → numbers (spaced f) ≡ f
unfolding numbers spaced
numbers_spaced [] = refl
numbers_spaced (c ∷ f) = ap₂ (λ (a b : List ℕ). a ++ b) (letter_numbers c) (numbers_spaced f)

letter_plain : (c : ℕ) → ltb c 256 ≡ true → is_plain (pick (eqb c 32) gap (ch c)) ≡ true
letter_plain c l =
    elim (cases_Bool (eqb c 32)) [
      | inl e ↦ ap is_plain (pick_true (eqb c 32) gap (ch c) e)
      | inr e ↦ ap is_plain (pick_false (eqb c 32) gap (ch c) e) ∙ and_from (ltb c 256) (not (eqb c 32)) l (ap not e)
    ]

spaced_plain : (f : List ℕ) → all_below 256 f ≡ true → all_plain (spaced f) ≡ true
unfolding all_below spaced all_plain
spaced_plain [] e = refl
spaced_plain (c ∷ f) e =
    let h = and_parts (ltb c 256) (all_below 256 f) e in
    and_from (is_plain (pick (eqb c 32) gap (ch c))) (all_plain (spaced f)) (letter_plain c h.0) (spaced_plain f h.1)

pub decoded_spaced : (f : List ℕ) → all_below 256 f ≡ true → decoded f ≡ spaced f
decoded_spaced f e = ap decoded (sym (numbers_spaced f)) ∙ decoded_all (spaced f) (all_plain_stand (spaced f) (spaced_plain f e))

pub note_broken :
    {s : Sheet} {text before after : List ℕ} {n : ℕ} → s.looks.width ≤ 1000 → all_below 256 text ≡ true → length text ≤ 4096 →
    BreaksRow (wide_by s.looks.widths) s.looks.width text before after n → NoteBroken s text before after n
note_broken {s} {text} {before} {after} {n} across small few b =
    let atoms : decoded text ≡ spaced text = decoded_spaced text small in
    let most : 8 * n + (8 * length text - 8 * n) ≡ 8 * length text = omega (arith, b.few) in
    let past : (xs : List ℕ) → drop (8 * length text - 8 * n) (drop (8 * n) xs) ≡ drop (8 * length text) xs =
    λ xs. drop-drop (8 * length text - 8 * n) (8 * n) xs ∙ ap (λ (k : ℕ). drop k xs) most
    in
    record {
      lines = in_lines s text (split (spaced text) nothing_yet) (take (8 * n) after)
          (subst (λ (xs : List Atom). Lined (wide_by s.looks.widths) s.looks.width text (split xs nothing_yet) (take (8 * n) after)) atoms b.lines) few across
          (ap all_plain atoms ∙ spaced_plain text small) (ap (λ (xs : List Atom). split xs nothing_yet) (sym atoms))
          (omega (arith, b.few, b.count, ap (λ (xs : List Atom). length (split xs nothing_yet)) atoms));
      few = b.few;
      kept = record { as_long = b.as_long; behind = sym (past after) ∙ ap (drop (8 * length text - 8 * n)) b.behind ∙ past before };
    }
