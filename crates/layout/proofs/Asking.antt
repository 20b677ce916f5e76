-- What is answered when a walk over the book has ended.
use Rattle.std.proofs.Common.{◌≡◌, ℕ, ◌+◌, ◌-◌, ◌<◌, ◌≤◌, true, false, ltb, List, [], ◌∷◌, ◌++◌, length, take, drop, Ok, Err, sym, refl, ap, ◌∙◌, subst, ap₂, arith}
use Rattle.std.proofs.lemmas.List.{append-nil, append_assoc, length-drop, length-take-le, drop-drop}
use Rattle.std.proofs.lemmas.Bool.{lt-ltb, le-ltb, le-leb, lt-leb}
use Rattle.meaning.specs.Lines.{Line, Placed}
use Rattle.meaning.specs.Pages.{Looks, fill}
use Rattle.meaning.specs.Calls.{letters_of, page_rows}
use Rattle.meaning.specs.Promise.{notes_of}
use Rattle.meaning.proofs.Picks.{pick_true, pick_false}
use Rattle.wire.specs.Bytes.{over, rows_bytes, answer_bytes}
use Rattle.wire.specs.declared.refusal.Refusal.TheVariants.{NoPage, NoRows}
use Rattle.layout.specs.Sheets.{looks_of}
use Rattle.layout.specs.Paragraphs.{part_rows}
use Rattle.layout.specs.Finishes.{rows_left, finish, finish_at, TakesAll}
use Rattle.layout.specs.Books.{lines_in, pages_by}
use Rattle.layout.specs.Found.{goal_of, FoundBy, window_of, inside}
use Rattle.layout.specs.Asked.{page_of, shape_of, shown_of, bytes_of_rows}
use Rattle.store.specs.Paragraphs.{paragraphs_left}
use Rattle.layout.specs.declared.sheet.Sheet.{Sheet}
use Rattle.layout.specs.declared.search.Goal.{Goal}
use Rattle.layout.specs.declared.rows.Part.TheVariants.{Lines, Notes}
use Rattle.layout.specs.declared.rows.RowWriter.{RowWriter}
use Rattle.layout.specs.declared.book.Wanted.{Wanted}
use Rattle.layout.specs.declared.book.Found.{Found}
use Rattle.layout.proofs.Writing.{written, over_more}
use Rattle.layout.proofs.Taking.{takes_more, all_taken, all_taken_at}
use Rattle.layout.proofs.Searching.{SearchAmong, search_is}
use Rattle.layout.proofs.PageRows.{whole_seen, rows_enough, rows_short, rows_seen}

module _ (s : Sheet) (ps : List (List ℕ)) (goal : Goal) (f : Found) (h : FoundBy s (lines_in s ps) goal f) where
  pub tells_pages : SearchAmong (pages_by s ps) goal f.walk
  unfolding pages_by
  tells_pages = subst (SearchAmong (fill (looks_of s) (lines_in s ps) [] []) goal) (sym h.walk) (search_is (looks_of s) goal (lines_in s ps))

  pub all_counted : f.walk.pages ≤ goal.page → length (pages_by s ps) ≡ f.walk.pages
  all_counted l = tells_pages.none l

  page_missing : f.walk.pages ≤ goal.page → ltb goal.page (length (pages_by s ps)) ≡ false
  page_missing l = le-ltb goal.page (length (pages_by s ps)) (omega (arith, tells_pages.none l))

  pub no_shape : f.walk.pages ≤ goal.page → Err (NoPage goal.page) ≡ shape_of (pages_by s ps) goal.page
  no_shape l = sym (pick_false _ _ _ (page_missing l))

  module _ (begun : goal.page < f.walk.pages) where
    on_page : f.walk.pages ≡ goal.page + 1
    on_page = omega (arith, tells_pages.near)

    page_there : ltb goal.page (length (pages_by s ps)) ≡ true
    page_there = lt-ltb goal.page (length (pages_by s ps)) (tells_pages.there on_page)

    pub shape_seen : f.walk.lines < goal.lines → Ok (record { lines = f.walk.lines; rows = f.walk.rows }) ≡ shape_of (pages_by s ps) goal.page
    unfolding pages_by
    shape_seen l =
        let whole = whole_seen (looks_of s) (lines_in s ps) goal f.walk tells_pages on_page l in
        ap₂ (λ (n m : ℕ). Ok (record { lines = n; rows = m })) whole.0 whole.1
        ∙ sym (pick_true _ _ _ page_there)

module _ (s : Sheet) (ps : List (List ℕ)) (q : Wanted) (f : Found) (h : FoundBy s (lines_in s ps) (goal_of q) f) where
  abbrev looks : Looks
  looks = looks_of s

  tells : SearchAmong (pages_by s ps) (goal_of q) f.walk
  tells = tells_pages s ps (goal_of q) f h

  pub no_such_page : f.walk.pages ≤ q.page → Err (NoPage q.page) ≡ shown_of (pages_by s ps) q.page q.row q.count
  no_such_page l = sym (pick_false _ _ _ (page_missing s ps (goal_of q) f h l))

  module _ (begun : q.page < f.walk.pages) where
    on : f.walk.pages ≡ q.page + 1
    on = on_page s ps (goal_of q) f h begun

    there : ltb q.page (length (pages_by s ps)) ≡ true
    there = page_there s ps (goal_of q) f h begun

    pub not_so_many : f.walk.rows < q.row + q.count → Err (NoRows q.row) ≡ shown_of (pages_by s ps) q.page q.row q.count
    unfolding pages_by
    not_so_many l =
        sym (pick_true _ _ _ there
        ∙ pick_false _ _ _ (lt-leb (q.row + q.count) (length (page_rows (page_of (pages_by s ps) q.page))) (rows_short looks (lines_in s ps) (goal_of q) f.walk tells on l)))

    pub place_near : f.from.lines ≤ f.walk.before
    place_near = h.near on

    -- all rows are there
    module _ (enough : q.row + q.count ≤ f.walk.rows) where
      so_many : q.row + q.count ≤ length (page_rows (page_of (pages_by s ps) q.page))
      unfolding pages_by
      so_many = rows_enough looks (lines_in s ps) (goal_of q) f.walk tells on enough

      abbrev let_through : List Line
      let_through = inside (window_of f) (lines_in s (paragraphs_left f.from.paragraphs))

      -- what the window lets through is what the walk has seen of the page
      same_lines : let_through ≡ take f.walk.lines (drop f.walk.before (lines_in s ps))
      same_lines =
          ap (λ (ls : List Line). take f.walk.lines (drop (f.walk.before - f.from.lines) ls)) (sym h.from.lines)
          ∙ ap (take f.walk.lines) (drop-drop (f.walk.before - f.from.lines) f.from.lines (lines_in s ps) ∙ ap (λ (n : ℕ). drop n (lines_in s ps)) (omega (arith, place_near)))

      abbrev all_rows : List (List Placed)
      all_rows = letters_of let_through ++ letters_of (notes_of looks let_through)

      same_rows : take q.count (drop q.row all_rows) ≡ take q.count (drop q.row (page_rows (page_of (pages_by s ps) q.page)))
      unfolding pages_by
      same_rows =
          ap (λ (ls : List Line). take q.count (drop q.row (letters_of ls ++ letters_of (notes_of looks ls)))) same_lines
          ∙ rows_seen looks (lines_in s ps) (goal_of q) f.walk tells on q.row q.count refl

      row_count : length (take q.count (drop q.row (page_rows (page_of (pages_by s ps) q.page)))) ≡ q.count
      row_count = length-take-le q.count (drop q.row (page_rows (page_of (pages_by s ps) q.page))) (omega (arith, length-drop q.row (page_rows (page_of (pages_by s ps) q.page)), so_many))

      bytes_are : bytes_of_rows (pages_by s ps) q.page q.row q.count ≡ (2 ∷ (q.count ∷ [])) ++ rows_bytes (take q.count (drop q.row all_rows))
      unfolding answer_bytes
      bytes_are = ap₂ (λ (n : ℕ) (xs : List (List Placed)). 2 ∷ (n ∷ rows_bytes xs)) row_count (sym same_rows)

      -- what the writer leaves that was made for them: first the lines, and then the notes
      module _
          (w u v : RowWriter) (passed : w.skip ≡ q.row) (left : w.left ≡ q.count) (start : w.end ≡ 2)
          (lines : TakesAll w u (part_rows Lines looks let_through)) (notes : TakesAll u v (part_rows Notes looks let_through))
        where
          taken : TakesAll w v all_rows
          taken =
              takes_more
              (record { lent = lines.lent; bytes = λ more. lines.bytes (letters_of (notes_of looks let_through) ++ more) ∙ ap (finish w) (sym (append_assoc (letters_of let_through) (letters_of (notes_of looks let_through)) more)); end = λ more. lines.end (letters_of (notes_of looks let_through) ++ more) ∙ ap (finish_at w) (sym (append_assoc (letters_of let_through) (letters_of (notes_of looks let_through)) more)) })
              v (letters_of (notes_of looks let_through)) [] (sym (append-nil (letters_of (notes_of looks let_through)))) notes

          rows_bytes_are : rows_bytes (rows_left w all_rows) ≡ rows_bytes (take q.count (drop q.row all_rows))
          rows_bytes_are = ap₂ (λ (n k : ℕ). rows_bytes (take n (drop k all_rows))) left passed

          pub written_there : (out : List ℕ) → 2 ≤ length out → w.out.now ≡ over (2 ∷ (q.count ∷ [])) out → v.out.now ≡ over (bytes_of_rows (pages_by s ps) q.page q.row q.count) out
          unfolding finish
          written_there out room t =
              all_taken taken
              ∙ ap₂ (λ (n : ℕ) (xs : List ℕ). written n xs w.out.now) start rows_bytes_are
              ∙ ap (written 2 (rows_bytes (take q.count (drop q.row all_rows)))) t
              ∙ over_more (2 ∷ (q.count ∷ [])) (rows_bytes (take q.count (drop q.row all_rows))) out room
              ∙ ap (λ (xs : List ℕ). over xs out) (sym bytes_are)

          pub shown_there : Ok v.end ≡ shown_of (pages_by s ps) q.page q.row q.count
          unfolding finish_at
          shown_there =
              let size : length (bytes_of_rows (pages_by s ps) q.page q.row q.count) ≡ v.end =
              ap length bytes_are ∙ omega (arith, all_taken_at taken, start, ap length rows_bytes_are) in
              sym (pick_true _ _ _ there
              ∙ (pick_true _ _ _ (le-leb (q.row + q.count) (length (page_rows (page_of (pages_by s ps) q.page))) so_many) ∙ ap Ok size))
