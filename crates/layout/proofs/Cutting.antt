-- The pages of an open book need no more of memory than what holds it: the header, the table and the paragraphs' bytes.
use Rattle.std.proofs.Common.{◌≡◌, ℕ, ◌+◌, ◌*◌, ◌<◌, ◌≤◌, true, List, [], length, get_or, take, drop, sym, ap, ◌∙◌, ap₂, arith, lit<}
use Rattle.std.proofs.lemmas.List.{get_or-take}
use Rattle.meaning.specs.Lines.{Line}
use Rattle.meaning.specs.Pages.{fill}
use Rattle.store.specs.Kept.{kept_at, table_sum, is_open}
use Rattle.store.proofs.Cutting.{length_of_book, bytes_of_book}
use Rattle.store.proofs.Looking.{kept_same}
use Rattle.store.proofs.Makes.{NumbersOf, numbers_at}
use Rattle.store.proofs.Tables.{table_sum_take, table_sum_more, table_sum_le}
use Rattle.layout.specs.Sheets.{looks_of}
use Rattle.layout.specs.Books.{sheet_at, bytes_at, pages_in, paragraphs_at, lines_in, pages_by}
use Rattle.layout.proofs.BookLines.{lines_of_bytes}
use Rattle.layout.proofs.OpenBooks.{sheet_of, pages_of_book}
use Rattle.layout.proofs.Cuts.{take_of_part}

pub pages_take :
    (ts rs : List ℕ) (a b : ℕ) → is_open (length ts) rs ≡ true → 2 * get_or rs 1 0 ≤ a → 64 + 4 * get_or rs 0 0 ≤ b → pages_in (take a ts) (take b rs) ≡ pages_in ts rs
unfolding pages_in pages_by
pages_take ts rs a b e tokens_long rest_long =
    ap₂ (λ s (ls : List Line). fill (looks_of s) ls [] []) sheet
    (lines_of_bytes (take a ts) (take b rs) (paragraphs_at ts rs) 0 (get_or (take b rs) 4 0) (length_of_book ts rs e ∙ sym (at 4 (lit< tt))) each
    ∙ ap (λ s. lines_in s (paragraphs_at ts rs)) sheet)
    ∙ sym (pages_of_book ts rs e)
  where
    n : NumbersOf ts rs (kept_at rs)
    n = numbers_at ts rs e

    at : (i : ℕ) → i < 64 → get_or (take b rs) i 0 ≡ get_or rs i 0
    at i l = get_or-take b rs i 0 (omega arith)

    sheet : sheet_at (take b rs) ≡ sheet_at rs
    sheet = ap sheet_of (kept_same (take b rs) rs at)

    -- a paragraph's bytes end where those of the next begin, which is no further than where all end
    same_bytes : (k : ℕ) → k < get_or rs 4 0 → bytes_at (take a ts) (take b rs) k ≡ bytes_at ts rs k
    same_bytes k l =
        let long : get_or (take b rs) (64 + 4 * k) 0 ≡ get_or rs (64 + 4 * k) 0 = get_or-take b rs (64 + 4 * k) 0 (omega (arith, n.within.paragraphs)) in
        let begins : table_sum 64 k (take b rs) ≡ table_sum 64 k rs = table_sum_take 64 k b rs (omega (arith, n.within.paragraphs)) in
        let ends : table_sum 64 k rs + get_or rs (64 + 4 * k) 0 ≤ a =
        omega (arith, table_sum_more 64 k rs, table_sum_le 64 (k + 1) (get_or rs 4 0) rs (omega arith), n.bytes_add_up, n.within.bytes) in
        ap₂ (λ (i j : ℕ). take i (drop j (take a ts))) long begins ∙ take_of_part (get_or rs (64 + 4 * k) 0) (table_sum 64 k rs) a ts ends

    each : (i : ℕ) → i < get_or (take b rs) 4 0 → get_or (paragraphs_at ts rs) i [] ≡ bytes_at (take a ts) (take b rs) (0 + i)
    each i l =
        let there : i < get_or rs 4 0 = omega (arith, at 4 (lit< tt), l) in
        let none : i ≡ 0 + i = omega arith in
        bytes_of_book ts rs e i there ∙ (sym (same_bytes i there) ∙ ap (bytes_at (take a ts) (take b rs)) none)
