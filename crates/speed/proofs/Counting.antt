-- What is left of a paragraph that was broken into lines: how many lines it has, and slots that are as they were.
use Rattle.std.proofs.Common.{◌≡◌, ℕ, ◌*◌, ◌≤◌, List, ◌++◌, length, take, drop, replicate, Some, None, Option, sym, refl, ap, ◌∙◌, subst, arith}
use Rattle.std.specs.Option.{option_map}
use Rattle.std.proofs.lemmas.List.{length-map, take-take, take-replicate, take-append-drop}
use Rattle.meaning.specs.Text.{Atom}
use Rattle.meaning.specs.Lines.{Word, is_blank, split}
use Rattle.words.specs.Atoms.{cleared}
use Rattle.words.specs.Lined.{atoms_or_none, words_found, taken_by, BreaksInto}
use Rattle.words.specs.declared.lines.Taken.{Taken}
use Rattle.linebreak.specs.Slots.{Follows}
use Rattle.linebreak.specs.Lines.{lines_of}
use Rattle.linebreak.proofs.Paths.{lines_follow}
use Rattle.linebreak.proofs.Leading.{leads}
use Rattle.speed.specs.Counts.{lines_in, used}

found_some : (found : Option (List Atom)) (t : Taken) → Some t ≡ option_map taken_by found → (found ≡ Some (atoms_or_none found)) × (t.words ≡ length (words_found found))
found_some None t e = cc
found_some (Some xs) t e = let is : t ≡ taken_by xs = cc in (refl, ap (λ (u : Taken). u.words) is)

-- what was 0 is 0 again
zeros_stay : (m most : ℕ) (before after : List ℕ) → m ≤ most → after ≡ cleared m before → take most before ≡ replicate most 0 → after ≡ before
zeros_stay m most before after l e z =
    let zeros : take m before ≡ replicate m 0 = sym (take-take m most before l) ∙ ap (take m) z ∙ take-replicate m most 0 l in
    e ∙ ap (λ (xs : List ℕ). xs ++ drop m before) (sym zeros) ∙ take-append-drop m before

module _ {wide : ℕ → ℕ} {width : ℕ} {found : Option (List Atom)} {before row start lined : List ℕ} {t : Taken} (b : BreaksInto wide width found before row start lined (Some t)) where
  abbrev words : ℕ
  words = t.words

  abbrev ws : List Word
  ws = words_found found

  is_some : found ≡ Some (atoms_or_none found)
  is_some = (found_some found t b.count).0

  pub as_many : words ≡ length ws
  as_many = (found_some found t b.count).1

  pub used_long : length (take (8 * words) lined) ≡ 8 * words
  used_long = ap (λ m. length (take (8 * m) lined)) as_many ∙ b.lines.as_long ∙ ap (λ m. 8 * m) (sym as_many)

  pub lines_counted : {lines : ℕ} → lines ≡ length (lines_of (take (8 * words) lined)) → Some lines ≡ lines_in wide width found
  lines_counted {lines} e =
      let slots : List ℕ = take (8 * length ws) lined in
      let follows : Follows wide width ws slots (length ws) = lines_follow wide width ws slots (length ws) refl b.lines.solved in
      let lead = leads wide width ws slots (length ws) b.lines.as_long follows in
      ap Some (e ∙ ap (λ m. length (lines_of (take (8 * m) lined))) as_many ∙ sym (length-map (lines_of slots) _) ∙ ap length (lead.sizes ∙ follows.whole (length ws) (omega arith)))
      ∙ sym (ap (lines_in wide width) is_some)

  module _ {zeros : List ℕ} (z : zeros ≡ replicate (length (take (8 * words) lined)) 0) where
    cleared_again : zeros ++ drop (8 * words) lined ≡ cleared (used found) start
    cleared_again =
        ap (λ (xs : List ℕ). xs ++ drop (8 * words) lined) (z ∙ ap (λ m. replicate m 0) used_long)
        ∙ ap (λ m. replicate (8 * m) 0 ++ drop (8 * m) lined) as_many
        ∙ ap (λ (xs : List ℕ). replicate (8 * length ws) 0 ++ xs) b.behind
        ∙ ap (λ (found : Option (List Atom)). cleared (used found) start) (sym is_some)

    pub zeros_again : take (8 * length before) start ≡ replicate (8 * length before) 0 → zeros ++ drop (8 * words) lined ≡ start
    zeros_again =
        zeros_stay (used found) (8 * length before) start (zeros ++ drop (8 * words) lined) (omega (arith, ap used is_some, b.few, b.room)) cleared_again

none_found : (found : Option (List Atom)) → None ≡ option_map taken_by found → found ≡ None
none_found None e = refl
none_found (Some xs) e = cc

-- where nothing was read no slot is written
module _ {wide : ℕ → ℕ} {width : ℕ} {found : Option (List Atom)} {before row start lined : List ℕ} (b : BreaksInto wide width found before row start lined None) where
  pub untouched : lined ≡ start
  unfolding split is_blank
  untouched = (subst (λ (o : Option (List Atom)). drop (8 * length (words_found o)) lined ≡ drop (8 * length (words_found o)) start) (none_found found b.count) b.behind)

  pub nothing_used : lined ≡ cleared (used found) start
  nothing_used = untouched ∙ ap (λ (o : Option (List Atom)). cleared (used o) start) (sym (none_found found b.count))
