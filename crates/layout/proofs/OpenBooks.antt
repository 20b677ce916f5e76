-- An open book, and its parts: what stands in front, which is read, and the part for work.
use Rattle.std.proofs.Common.{◌≡◌, ℕ, ◌+◌, ◌*◌, ◌<◌, ◌≤◌, true, ◌&&◌, leb, List, [], ◌++◌, length, get_or, replicate, take, drop, sym, ap, ◌∙◌, subst, ap₂, arith}
use Rattle.std.proofs.lemmas.List.{length-take-le, length-drop, get_or-take}
use Rattle.std.proofs.lemmas.Bool.{leb-true, and_parts}
use Rattle.meaning.specs.Lines.{Line}
use Rattle.meaning.specs.Pages.{fill}
use Rattle.words.specs.Atoms.{cleared}
use Rattle.store.specs.Kept.{kept_at, entries_at, is_open}
use Rattle.store.specs.Paragraphs.{paragraphs_in}
use Rattle.store.specs.declared.kept.Kept.{Kept}
use Rattle.store.proofs.Cutting.{length_of_book, bytes_of_book}
use Rattle.store.proofs.Looking.{open_parts, kept_same}
use Rattle.store.proofs.Makes.{numbers_at}
use Rattle.store.proofs.Tables.{entries_take}
use Rattle.layout.specs.Sheets.{looks_of, working}
use Rattle.layout.specs.Books.{sheet_at, bytes_at, pages_in, start_at, worked, paragraphs_at, pages_by, LookedAt, InFront}
use Rattle.layout.specs.declared.sheet.Sheet.{Sheet}
use Rattle.layout.proofs.BookLines.{lines_of_bytes}

-- how a book looks of which this is kept
abbrev pub sheet_of : Kept → Sheet
sheet_of k = record { looks = k.looks; bulk = k.limits.bulk }

pub record InRange (ts rs : List ℕ) : Type 0 where
  pub few : get_or rs 0 0 ≤ 4096
  pub within : get_or rs 4 0 ≤ get_or rs 0 0
  pub bulk : get_or rs 3 0 ≤ 4096
  pub width : get_or rs 10 0 ≤ 1000
  pub room : start_at rs + working (get_or rs 3 0) ≤ length rs

pub in_range : (ts rs : List ℕ) → is_open (length ts) rs ≡ true → InRange ts rs
in_range ts rs e =
    let n = numbers_at ts rs e in
    let p = open_parts (length ts) rs e in
    let across : leb (get_or rs 10 0) 1000 ≡ true = (and_parts (leb 1 (get_or rs 10 0)) _ (and_parts (leb 1 (get_or rs 10 0) && leb (get_or rs 10 0) 1000) _ p.looks).0).1 in
    record {
      few = n.paragraphs_few;
      within = n.within.paragraphs;
      bulk = n.bulk_few;
      width = leb-true _ _ across;
      room = omega (arith, p.numbers_enough);
    }

module _ (ts rs : List ℕ) (opened : is_open (length ts) rs ≡ true) where
  range : InRange ts rs
  range = in_range ts rs opened

  pub few_paragraphs : length (paragraphs_at ts rs) ≤ 4096
  few_paragraphs = let r = range in omega (arith, length_of_book ts rs opened, r.few, r.within)

  -- the pages of the paragraphs that stand there
  pub pages_of_book : pages_in ts rs ≡ pages_by (sheet_at rs) (paragraphs_at ts rs)
  unfolding pages_in pages_by
  pages_of_book =
      let none : (i : ℕ) → i ≡ 0 + i = λ i. omega arith in
      ap (λ (ls : List Line). fill (looks_of (sheet_at rs)) ls [] [])
      (lines_of_bytes ts rs (paragraphs_at ts rs) 0 (get_or rs 4 0) (length_of_book ts rs opened) (λ i l. bytes_of_book ts rs opened i l ∙ ap (bytes_at ts rs) (none i)))

  -- what stands in front
  module _ (front : List ℕ) (cut : front ≡ take (start_at rs) rs) where
    front_at : (i : ℕ) → i < 64 → get_or front i 0 ≡ get_or rs i 0
    front_at i l = ap (λ xs. get_or xs i 0) cut ∙ get_or-take (start_at rs) rs i 0 (omega arith)

    pub sheet_in_front : sheet_at front ≡ sheet_at rs
    sheet_in_front = ap sheet_of (kept_same front rs front_at)

    pub long_front : length front ≡ start_at rs
    long_front = ap length cut ∙ length-take-le (start_at rs) rs (let r = range in omega (arith, r.room))

    pub kept_in_front : kept_at front ≡ kept_at rs
    kept_in_front = kept_same front rs front_at

    pub paragraphs_in_front : paragraphs_at ts front ≡ paragraphs_at ts rs
    paragraphs_in_front = ap (paragraphs_in ts) (ap entries_at cut ∙ entries_take (start_at rs) rs (let r = range in omega (arith, r.within)))

    pub in_front : (k : Kept) → k ≡ kept_at rs → InFront ts front k
    in_front k e =
        let r = range in
        let n = ap (λ (j : Kept). j.paragraphs.entries) e in
        record {
          kept = e ∙ sym kept_in_front;
          long = omega (arith, n, long_front, r.within);
          few = omega (arith, n, r.few, r.within);
          bulk = omega (arith, ap (λ (j : Kept). j.limits.bulk) e, r.bulk);
          width = omega (arith, ap (λ (j : Kept). j.looks.width) e, r.width);
          all = subst (λ (ps : List (List ℕ)). length ps ≤ 4096) (sym paragraphs_in_front) few_paragraphs;
        }

-- a book that was looked at, cut in two
module _ {ts rs : List ℕ} {k : Kept} (book : LookedAt ts rs k) {n : ℕ} (long : n ≡ 64 + 4 * k.limits.paragraphs) where
  starts : n ≡ start_at rs
  starts = long ∙ ap (λ (j : Kept). 64 + 4 * j.limits.paragraphs) book.kept

  pub cut_room : n + working (get_or rs 3 0) ≤ length rs
  cut_room = let r = in_range ts rs book.opened in omega (arith, r.room, starts)

  module _ {front work : List ℕ} (before : front ≡ take n rs) (behind : work ≡ drop n rs) where
    front_cut : front ≡ take (start_at rs) rs
    front_cut = before ∙ ap (λ m. take m rs) starts

    pub stands_apart : InFront ts front k × (working k.limits.bulk ≤ length work)
    stands_apart = (in_front ts rs book.opened front front_cut k book.kept, omega (arith, cut_room, ap length behind, length-drop n rs, ap (λ (j : Kept). j.limits.bulk) book.kept))

    pub pages_there : {s : Sheet} {ps : List (List ℕ)} → s ≡ sheet_at front → ps ≡ paragraphs_at ts front → pages_in ts rs ≡ pages_by s ps
    pages_there {s} {ps} sheet paragraphs =
        let same : s ≡ sheet_at rs = sheet ∙ sheet_in_front ts rs book.opened front front_cut in
        pages_of_book ts rs book.opened
        ∙ ap₂ (λ (t : Sheet) (qs : List (List ℕ)). pages_by t qs) (sym same) (sym (paragraphs ∙ paragraphs_in_front ts rs book.opened front front_cut))

    -- when what was used of the part for work is 0 again
    pub cleaned :
        {s t : Sheet} {made clean : List ℕ} (used : List ℕ) → s ≡ sheet_at front → t ≡ s → made ≡ work → drop (working s.bulk) used ≡ drop (working s.bulk) made →
        clean ≡ cleared (working t.bulk) used → front ++ clean ≡ worked rs
    cleaned {s} {t} {made} {clean} used sheet same made_is behind_is clean_is =
        let looks : s ≡ sheet_at rs = sheet ∙ sheet_in_front ts rs book.opened front front_cut in
        let bulk : working s.bulk ≡ working (get_or rs 3 0) = ap (λ (x : Sheet). working x.bulk) looks in
        let at_start : work ≡ drop (start_at rs) rs = behind ∙ ap (λ m. drop m rs) starts in
        let zeros : List ℕ = replicate (working s.bulk) 0 in
        let kept : clean ≡ zeros ++ drop (working s.bulk) used = clean_is ∙ ap (λ (x : Sheet). cleared (working x.bulk) used) same in
        ap₂ (λ (xs ys : List ℕ). xs ++ ys) front_cut
        (kept ∙ (ap (λ xs. zeros ++ xs) (behind_is ∙ ap (drop (working s.bulk)) (made_is ∙ at_start)) ∙ ap (λ m. cleared m (drop (start_at rs) rs)) bulk))
