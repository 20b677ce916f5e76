-- The pages that memory holds are those of the text: paragraphs, looks and limits can all be read back from it.
use Rattle.std.proofs.Common.{map, inl, inr, lit<, w64, ◌≡◌, ℕ, ◌+◌, ◌-◌, ◌*◌, ◌/◌, ◌%◌, ◌<◌, ◌≤◌, Bool, true, ◌||◌, eqb, ltb, leb, List, [], ◌∷◌, ◌++◌, length, get_or, take, drop, replicate, Some, None, Option, sym, refl, ap, ◌∙◌, ap₂, arith}
use Rattle.std.specs.Int.{from_le_bytes}
use Rattle.std.specs.List.{AllByRecursion as All, range_with_len}
use Rattle.std.proofs.lemmas.Nat.{le_bytes_8}
use Rattle.std.proofs.lemmas.List.FromFn.{length-map-range_with_len, get_or-map-range_with_len}
use Rattle.std.proofs.ByRecursion.{All-weaker}
use Rattle.std.proofs.lemmas.List.{append_assoc, append-nil, length-append, length_push, take_at, drop_at, get_or_append_left, get_or-append_right, get_or_past}
use Rattle.std.proofs.lemmas.Bool.{cases_lt, cases_Bool, and_parts, ltb-true, eqb-true}
use Rattle.meaning.specs.Text.{Tokens, Atom, meant, atoms, all_written}
use Rattle.meaning.specs.Lines.{Line, paragraph}
use Rattle.meaning.specs.Pages.{Looks, fill, all_lines, book}
use Rattle.meaning.specs.Calls.{Limits, sizes, bulk, short_all, fits}
use Rattle.meaning.specs.Promise.{GoodLooks}
use Rattle.meaning.proofs.Picks.{pick_true}
use Rattle.meaning.proofs.Nameless.{same_atoms, made_nameless}
use Rattle.meaning.proofs.Drawn.{Letters, Plain, plain_draws, good_letters, good_atoms, all_lines_drawn}
use Rattle.meaning.proofs.Tables.{Alike, set_same, fill_same, alike_plain}
use Rattle.wire.specs.Stage.{stage_tokens}
use Rattle.wire.proofs.Parses.{tokens_of_all_written}
use Rattle.words.specs.Atoms.{numbers}
use Rattle.words.specs.Reads.{stage_atoms, within}
use Rattle.words.specs.Laws.{Readably, LettersSpacesNotes}
use Rattle.words.specs.Slots.{wide_by}
use Rattle.words.proofs.Good.{bulk_numbers, good_readably}
use Rattle.store.specs.Opened.{packed, packed_widths, header, tokens_asked, rest_of}
use Rattle.store.specs.Kept.{table_sum, bytes_of, widths_at}
use Rattle.store.proofs.Tables.{table_sum_more}
use Rattle.words.specs.Lined.{atoms_or_none}
use Rattle.layout.specs.Sheets.{looks_of, paragraph_atoms, paragraph_lines}
use Rattle.layout.specs.Books.{sheet_at, bytes_at, book_lines, pages_in}
use Rattle.machine.proofs.Rows.{forms, entries, forms_append}
use Rattle.machine.proofs.Memories.{header_at, header_for, memory, length_header_at, Tells, rest_tells}
use Rattle.machine.proofs.Fits.{Good, nameless, plain, fitting}

-- the atoms of good tokens
stage_has : LettersSpacesNotes stage_tokens
unfolding stage_tokens
stage_has k h =
    elim (cases_Bool (ltb k 2)) [
      | inl l ↦ inl (ltb-true k 2 l)
      | inr l ↦ inr (eqb-true k 4 (ap (λ (b : Bool). b || eqb k 4) (sym l) ∙ h))
    ]

readably : (p : Tokens) → Good p → (pg : ℕ → ℕ) → Readably p (atoms [] pg p)
readably p h pg = good_readably stage_tokens stage_has pg (meant 16 [] pg) [] p 16 h

module _ (wide : ℕ → ℕ) (small : (c : ℕ) → wide c ≤ 63) where
  -- eight widths in a number, a byte each
  byte_of_packed : (c i : ℕ) → i < 8 → get_or (bytes_of (packed wide c)) i 0 ≡ wide (c + i)
  unfolding packed bytes_of
  byte_of_packed c i h = ap (λ (xs : List ℕ). get_or xs i 0) (le_bytes_8 bs (packed wide c) (length-map-range_with_len wide c 8) below value) ∙ at i h
    where
      bs : List ℕ
      bs = map wide (range_with_len c 8)

      at : (j : ℕ) → j < 8 → get_or bs j 0 ≡ wide (c + j)
      at j l = get_or-map-range_with_len wide c 8 j (c + j) 0 l refl

      below : (j : ℕ) → get_or bs j 0 < 256
      below j =
          elim (cases_lt j 8) [
            | inl l ↦ omega (arith, at j l, small (c + j))
            | inr past ↦ omega (arith, get_or_past bs j 0 (omega (arith, length-map-range_with_len wide c 8)))
          ]

      value : packed wide c ≡ from_le_bytes w64 bs
      value =
          let first : get_or bs 0 0 ≡ wide c = at 0 (lit< tt) ∙ ap wide (omega arith) in
          omega (arith, first, at 1 (lit< tt), at 2 (lit< tt), at 3 (lit< tt), at 4 (lit< tt), at 5 (lit< tt), at 6 (lit< tt), at 7 (lit< tt))

  -- a row of numbers that has the packed widths where the header has them
  wide_again : (rs : List ℕ) → ((j : ℕ) → j < 12 → get_or rs (12 + j) 0 ≡ packed wide (32 + 8 * j)) → (c : ℕ) → 32 ≤ c → c ≤ 126 → wide_by (widths_at rs) c ≡ wide c
  wide_again rs there c low high =
      let k : ℕ = c - 32 in
      let place : 32 + 8 * (k / 8) + k % 8 ≡ c = omega arith in
      get_or-map-range_with_len (λ j. get_or (bytes_of (get_or rs (12 + j / 8) 0)) (j % 8) 0) 0 95 k k 1 (omega arith) (omega arith)
      ∙ (ap (λ n. get_or (bytes_of n) (k % 8) 0) (there (k / 8) (omega arith)) ∙ (byte_of_packed (32 + 8 * (k / 8)) (k % 8) (omega arith) ∙ ap wide place))

header_widths : (l : Limits) (g : Looks) (n s b j : ℕ) → j < 12 → get_or (header_at l g n s b) (12 + j) 0 ≡ packed g.wide (32 + 8 * j)
unfolding header_at header
header_widths l g n s b j h =
    let front : List ℕ = l.paragraphs ∷ (l.tokens ∷ (l.definitions ∷ (l.bulk ∷ (n ∷ (s ∷ (b ∷ (0 ∷ (0 ∷ (0 ∷ (g.across ∷ (g.rows ∷ []))))))))))) in
    let width : ℕ → ℕ = λ k. packed g.wide (32 + 8 * k) in
    let place : 12 + j - 12 ≡ j = omega arith in
    get_or-append_right front (packed_widths g.wide ++ replicate 40 0) 12 (12 + j) 0 refl (omega arith)
    ∙ (ap (λ (i : ℕ). get_or (packed_widths g.wide ++ replicate 40 0) i 0) place
    ∙ (get_or_append_left (packed_widths g.wide) (replicate 40 0) 0 j (omega (arith, length-map-range_with_len width 0 12)) ∙ get_or-map-range_with_len width 0 12 j j 0 h (omega arith)))

rest_widths : (l : Limits) (g : Looks) (ps : List Tokens) (j : ℕ) → j < 12 → get_or (rest_of (memory l g ps)) (12 + j) 0 ≡ packed g.wide (32 + 8 * j)
unfolding memory
rest_widths l g ps j h =
    ap (λ (xs : List ℕ). get_or xs (12 + j) 0) (append_assoc (header_for l g ps ++ entries ps) _ _ ∙ append_assoc (header_for l g ps) (entries ps) _)
    ∙ (get_or_append_left (header_for l g ps) _ 0 (12 + j) (omega (arith, length_header_at l g (length ps) (sizes ps) (length (forms ps)))) ∙ header_widths l g _ _ _ j h)

module _ (l : Limits) (g : Looks) (ps : List Tokens) where
  abbrev ts : List ℕ
  ts = (memory l g ps).tokens

  abbrev rs : List ℕ
  rs = rest_of (memory l g ps)

  tokens_there : (qs : List Tokens) (p : Tokens) (us : List Tokens) → ps ≡ qs ++ (p ∷ us) → (zeros : List ℕ) × (ts ≡ forms qs ++ (all_written p ++ (forms us ++ zeros)))
  unfolding memory
  tokens_there qs p us e =
      let zeros : List ℕ = replicate (tokens_asked l - length (forms ps)) 0 in (
        zeros,
        ap (λ (xs : List ℕ). xs ++ zeros) (ap forms e ∙ forms_append qs (p ∷ us))
            ∙ (append_assoc (forms qs) (all_written p ++ forms us) zeros ∙ ap (λ (xs : List ℕ). forms qs ++ xs) (append_assoc (all_written p) (forms us) zeros)),
      )

  -- a paragraph's bytes are its form
  bytes_there : (qs : List Tokens) (p : Tokens) (us : List Tokens) → ps ≡ qs ++ (p ∷ us) → bytes_at ts rs (length qs) ≡ all_written p
  bytes_there qs p us e =
      let tells : Tells l g ps rs = rest_tells l g ps in
      let begins : table_sum 64 (length qs) rs ≡ length (forms qs) = tells.first_bytes qs (p ∷ us) e in
      let ends : table_sum 64 (length qs + 1) rs ≡ length (forms qs) + length (all_written p) =
      ap (λ (n : ℕ). table_sum 64 n rs) (sym (length_push qs p)) ∙ (tells.first_bytes (qs ++ (p ∷ [])) us (e ∙ sym (append_assoc qs (p ∷ []) us))
      ∙ simp (forms_append, length-append, append-nil) refl) in
      let long : get_or rs (64 + 4 * length qs) 0 ≡ length (all_written p) = omega (arith, table_sum_more 64 (length qs) rs) in
      let (zeros, parts) = tokens_there qs p us e in
      ap₂ (λ (n k : ℕ). take n (drop k ts)) long begins
      ∙ (ap (λ (xs : List ℕ). take (length (all_written p)) (drop (length (forms qs)) xs)) parts
      ∙ (ap (take (length (all_written p))) (drop_at (forms qs) _ (length (forms qs)) refl) ∙ take_at (all_written p) _ (length (all_written p)) refl))

  -- and they are read as its atoms, for there is room
  atoms_there : (p : Tokens) (pg : ℕ → ℕ) → Good p → leb (bulk (atoms [] (λ k. 99999999) p)) l.bulk ≡ true → paragraph_atoms (sheet_at rs) (all_written p) ≡ atoms [] pg p
  atoms_there p pg h short =
      let xs : List Atom = atoms [] pg p in
      let few : leb (length (numbers xs)) (get_or rs 3 0) ≡ true =
      ap₂ leb (bulk_numbers (atoms [] pg p) ∙ ap bulk (same_atoms stage_tokens nameless [] p h pg (λ k. 99999999))) (rest_tells l g ps).most_bulk ∙ short in
      ap (λ (us : Tokens). atoms_or_none (within (get_or rs 3 0) (stage_atoms us))) (tokens_of_all_written p)
      ∙ (ap (λ (o : Option (List Atom)). atoms_or_none (within (get_or rs 3 0) o)) (readably p h pg).value ∙ ap atoms_or_none (pick_true (leb (length (numbers xs)) (get_or rs 3 0)) (Some xs) None few))

  module _ (looks : GoodLooks g) where
    like : Alike Plain (looks_of (sheet_at rs)) g
    like =
        alike_plain (looks_of (sheet_at rs)) g (rest_tells l g ps).across (rest_tells l g ps).rows
        (wide_again g.wide (λ c. (looks.wide_enough c).1) rs (rest_widths l g ps))

    -- the lines of what is left, paragraph by paragraph
    lines_there :
        (pg : ℕ → ℕ) (qs us : List Tokens) → ps ≡ qs ++ us → All Good us → short_all l.bulk [] us ≡ true → book_lines ts rs (length qs) (length us) ≡ all_lines g [] pg us
    unfolding book_lines all_lines short_all
    lines_there pg qs [] e goods short = refl
    lines_there pg qs (p ∷ us) e goods short =
        let parts = and_parts (leb (bulk (atoms [] (λ k. 99999999) p)) l.bulk) (short_all l.bulk [] us) short in
        let here : paragraph_lines (sheet_at rs) (bytes_at ts rs (length qs)) ≡ paragraph g.wide g.across (atoms [] pg p) =
        ap (paragraph_lines (sheet_at rs)) (bytes_there qs p us e)
        ∙ (ap (paragraph (wide_by (widths_at rs)) (get_or rs 10 0)) (atoms_there p pg goods.0 parts.0)
        ∙ set_same Plain (looks_of (sheet_at rs)) g like (atoms [] pg p) (good_atoms stage_tokens 16 [] pg p tt goods.0)) in
        let behind : book_lines ts rs (length qs + 1) (length us) ≡ all_lines g [] pg us =
        ap (λ (n : ℕ). book_lines ts rs n (length us)) (sym (length_push qs p))
        ∙ lines_there pg (qs ++ (p ∷ [])) us (e ∙ sym (append_assoc qs (p ∷ []) us)) goods.1 parts.1 in
        ap₂ (λ (a b : List Line). a ++ b) here behind

pub pages_there :
    (l : Limits) (g : Looks) → GoodLooks g → (ps : List Tokens) → fits l (plain ps) ≡ true → All Good ps → pages_in (memory l g ps).tokens (rest_of (memory l g ps)) ≡ (book g [] ps).made
unfolding pages_in
pages_there l g looks ps fit goods =
    let ts : List ℕ = (memory l g ps).tokens in
    let rs : List ℕ = rest_of (memory l g ps) in
    let ls : List Line = all_lines g [] (λ k. 0) ps in
    let letters : All (Letters Plain) ps = All-weaker Good (Letters Plain) (λ p. good_letters stage_tokens p 16) ps goods in
    ap (λ (ms : List Line). fill (looks_of (sheet_at rs)) ms [] [])
    (ap (book_lines ts rs 0) (rest_tells l g ps).paragraphs ∙ lines_there l g ps looks (λ k. 0) [] ps refl goods (fitting l ps fit).all_short)
    ∙ (fill_same Plain (looks_of (sheet_at rs)) g (like l g ps looks) ls [] [] (all_lines_drawn Plain plain_draws g [] (λ k. 0) ps tt letters) ∙ sym (made_nameless stage_tokens nameless [] g ps goods))
