-- The lines of a broken paragraph, walked over or taken as rows, one after the other.
use Rattle.std.proofs.Common.{◌≡◌, ℕ, zero, suc, ◌+◌, ◌-◌, ◌≤◌, Bool, true, false, ◌||◌, eqb, ltb, List, [], ◌∷◌, ◌++◌, map, length, take, drop, sym, refl, ap, ◌∙◌, subst, arith}
use Rattle.std.specs.List.{AllByRecursion as All}
use Rattle.std.specs.declared.ops.Range.{Range}
use Rattle.std.proofs.lemmas.Bool.{ltb-false, true≢false}
use Rattle.meaning.specs.Text.{pick}
use Rattle.meaning.specs.Lines.{Line, Placed}
use Rattle.meaning.specs.Calls.{letters_of}
use Rattle.meaning.specs.Promise.{notes_of}
use Rattle.meaning.proofs.Picks.{pick_both}
use Rattle.linebreak.specs.Lines.{lines_of}
use Rattle.layout.specs.Walks.{stepped, goes_past, moved_on, found_line, searched, Small, Grown}
use Rattle.layout.specs.Fills.{heights}
use Rattle.layout.specs.Sheets.{looks_of, Noted}
use Rattle.layout.specs.Found.{inside, is_inside, passed_one, passed}
use Rattle.layout.specs.Paragraphs.{broken_words, broken_lines, part_rows, line_part_rows, Within}
use Rattle.layout.specs.Finishes.{Takes, TakesAll}
use Rattle.layout.specs.declared.walk.Walk.{Walk}
use Rattle.layout.specs.declared.search.Search.{Search}
use Rattle.layout.specs.declared.rows.Part.{Part}
use Rattle.layout.specs.declared.rows.Part.TheVariants.{Lines, Notes}
use Rattle.layout.specs.declared.rows.Window.{Window}
use Rattle.layout.specs.declared.rows.RowWriter.{RowWriter}
use Rattle.layout.specs.declared.paragraph.BrokenParagraph.{BrokenParagraph}
use Rattle.layout.proofs.Searching.{searched_done}
use Rattle.layout.proofs.LineSteps.{as_many_lines, no_more_lines}
use Rattle.layout.proofs.Wholes.{line_at, within_all, lines_whole, line_height, heights_are, part_one}
use Rattle.layout.proofs.Windows.{part_append, inside_one, passed_none, passed_more}
use Rattle.layout.proofs.NoteSteps.{noted_same, noted_more}
use Rattle.layout.proofs.Taking.{takes_none, takes_more}

-- the walk's numbers after one line more
abbrev pub most_rows : ℕ
most_rows = 1099511627776

pub record GrownOne (w v : Walk) : Type 0 where
  pub pages : v.pages ≤ w.pages + 1
  pub seen : v.before + v.lines ≤ w.before + w.lines + 1
  pub rows : v.rows ≤ most_rows

or_second : (a b : Bool) → (a || b) ≡ false → b ≡ false
or_second true b z = absurd (true≢false z)
or_second false b z = z

step_grown : (rows h : ℕ) (w : Walk) → rows ≤ 4294967296 → h ≤ 4097 → GrownOne w (stepped rows w h)
step_grown rows h w few small =
    pick_both (eqb w.lines 0 || ltb rows (w.rows + h)) _ _ (GrownOne w)
    (λ _. record { pages = omega arith; seen = omega arith; rows = omega arith })
    (λ e. record { pages = omega arith; seen = omega arith; rows = omega (arith, within e) })
  where
    within : (eqb w.lines 0 || ltb rows (w.rows + h)) ≡ false → w.rows + h ≤ rows
    within e = ltb-false rows (w.rows + h) (or_second (eqb w.lines 0) (ltb rows (w.rows + h)) e)

pub found_grown : (rows h : ℕ) (s : Search) → rows ≤ 4294967296 → h ≤ 4097 → s.walk.rows ≤ most_rows → GrownOne s.walk (found_line rows s h).walk
found_grown rows h s few small r =
    let stays : GrownOne s.walk s.walk = record { pages = omega arith; seen = omega arith; rows = r } in
    pick_both s.done s (moved_on s (stepped rows s.walk h)) (λ (t : Search). GrownOne s.walk t.walk) (λ _. stays)
    (λ _. pick_both (goes_past s.goal (stepped rows s.walk h)) _ _ (λ (t : Search). GrownOne s.walk t.walk) (λ _. stays) (λ _. step_grown rows h s.walk few small))

-- a walk over all lines has come to those that are left: it ends where one over these does from here
pub record WalkedTo (p : BrokenParagraph) (from : Search) (before notes : List ℕ) (left : List (Range ℕ)) (now : Search) : Type 0 where
  pub within : All (Within p) left
  pub fewer : length left ≤ length (lines_of p.slots.now)
  pub grown : Grown (length (lines_of p.slots.now) - length left) from.walk now.walk
  pub rows : now.walk.rows ≤ most_rows
  pub ends : searched p.sheet.now.looks.rows (map (line_height p) left) now ≡ searched p.sheet.now.looks.rows (map (line_height p) (lines_of p.slots.now)) from
  pub kept : Noted (length p.row.now) before notes

pub walked_start : (p : BrokenParagraph) (from : Search) (before : List ℕ) → Small from.walk → WalkedTo p from before before (lines_of p.slots.now) from
walked_start p from before small =
    record {
      within = within_all p;
      fewer = omega arith;
      grown = record { pages = omega arith; seen = omega arith };
      rows = small.rows;
      ends = refl;
      kept = noted_same (length p.row.now) before;
    }

-- what a search over the heights of the lines is
whole_search : (p : BrokenParagraph) (from : Search) → searched p.sheet.now.looks.rows (map (line_height p) (lines_of p.slots.now)) from ≡ searched p.sheet.now.looks.rows (heights (looks_of p.sheet.now) (broken_lines p)) from
whole_search p from = ap (λ (hs : List ℕ). searched p.sheet.now.looks.rows hs from) (sym (ap (heights (looks_of p.sheet.now)) (lines_whole p) ∙ heights_are p (lines_of p.slots.now) (within_all p)))

module _ {p : BrokenParagraph} {from now : Search} {before notes : List ℕ} {left : List (Range ℕ)} (w : WalkedTo p from before notes left now) where
  pub walked_more :
      {line : Range ℕ} {later : List (Range ℕ)} {after : List ℕ} {next : Search} {h : ℕ} → left ≡ line ∷ later → p.sheet.now.looks.rows ≤ 4294967296 → h ≡ line_height p line → h ≤ 4097 →
      next ≡ found_line p.sheet.now.looks.rows now h → Noted (length p.row.now) notes after → WalkedTo p from before after later next
  unfolding searched
  walked_more {line} {later} {after} {next} {h} e few is small step k =
      let count = ap length e in
      let one : GrownOne now.walk next.walk = subst (λ (t : Search). GrownOne now.walk t.walk) (sym step) (found_grown p.sheet.now.looks.rows h now few small w.rows) in
      let g = w.grown in
      let a = g.pages in
      let b = g.seen in
      let a' = one.pages in
      let b' = one.seen in
      record {
        within = (subst (All (Within p)) e w.within).1;
        fewer = omega (arith, w.fewer);
        grown = record { pages = omega (arith, w.fewer); seen = omega (arith, w.fewer) };
        rows = one.rows;
        ends =
            ap (searched p.sheet.now.looks.rows (map (line_height p) later)) (step ∙ ap (found_line p.sheet.now.looks.rows now) is)
            ∙ ap (λ (ls : List (Range ℕ)). searched p.sheet.now.looks.rows (map (line_height p) ls) now) (sym e)
            ∙ w.ends;
        kept = noted_more (length p.row.now) (length p.row.now) before notes after (omega arith) w.kept k;
      }

  pub walked_grown : Grown (length (broken_words p)) from.walk now.walk
  walked_grown =
      let g = w.grown in
      let a = g.pages in
      let b = g.seen in
      let most = no_more_lines p.sheet.now p.row.now p.slots.now p.lines in
      record { pages = omega arith; seen = omega arith }

  pub walked_done : now.done ≡ true → now ≡ searched p.sheet.now.looks.rows (heights (looks_of p.sheet.now) (broken_lines p)) from
  walked_done e = sym (searched_done p.sheet.now.looks.rows (map (line_height p) left) now e) ∙ w.ends ∙ whole_search p from

  pub walked_all : left ≡ [] → now ≡ searched p.sheet.now.looks.rows (heights (looks_of p.sheet.now) (broken_lines p)) from
  unfolding searched
  walked_all e = sym (ap (λ (ls : List (Range ℕ)). searched p.sheet.now.looks.rows (map (line_height p) ls) now) e) ∙ w.ends ∙ whole_search p from

-- lines of a window have been taken, before those that are left
pub record TakenTo (p : BrokenParagraph) (part : Part) (start : Window) (from : RowWriter) (before notes : List ℕ) (left : List (Range ℕ)) (window : Window) (now : RowWriter) : Type 0 where
  pub within : All (Within p) left
  pub goes_on : passed window (length left) ≡ passed start (length (broken_lines p))
  pub taken : Takes from now (part_rows part (looks_of p.sheet.now) (inside start (broken_lines p))) (part_rows part (looks_of p.sheet.now) (inside window (map (line_at p) left)))
  pub kept : Noted (length p.row.now) before notes

pub taken_start : (p : BrokenParagraph) (part : Part) (start : Window) (from : RowWriter) (before : List ℕ) → TakenTo p part start from before before (lines_of p.slots.now) start from
taken_start p part start from before =
    let all : List (List Placed) = part_rows part (looks_of p.sheet.now) (inside start (broken_lines p)) in
    record {
      within = within_all p;
      goes_on = ap (passed start) (sym (as_many_lines p.sheet.now p.row.now p.slots.now p.lines));
      taken = subst (λ (ls : List Line). Takes from from all (part_rows part (looks_of p.sheet.now) (inside start ls))) (lines_whole p) (takes_none from all);
      kept = noted_same (length p.row.now) before;
    }

module _ {p : BrokenParagraph} {part : Part} {start window : Window} {from now : RowWriter} {before notes : List ℕ} {left : List (Range ℕ)} (t : TakenTo p part start from before notes left window now) where
  -- one line more, which is in the window or not
  module _ {line : Range ℕ} {later : List (Range ℕ)} (e : left ≡ line ∷ later) where
    here : Within p line
    here = (subst (All (Within p)) e t.within).0

    rows_next : (b : Bool) → is_inside window ≡ b → part_rows part (looks_of p.sheet.now) (inside window (map (line_at p) left)) ≡ part_rows part (looks_of p.sheet.now) (pick b (line_at p line ∷ []) []) ++ part_rows part (looks_of p.sheet.now) (inside (passed_one window) (map (line_at p) later))
    rows_next b f =
        ap (λ (ls : List (Range ℕ)). part_rows part (looks_of p.sheet.now) (inside window (map (line_at p) ls))) e
        ∙ ap (part_rows part (looks_of p.sheet.now)) (inside_one window (line_at p line) (map (line_at p) later) ∙ ap (λ (c : Bool). pick c (line_at p line ∷ []) [] ++ inside (passed_one window) (map (line_at p) later)) f)
        ∙ part_append part (looks_of p.sheet.now) (pick b (line_at p line ∷ []) []) (inside (passed_one window) (map (line_at p) later))

    goes_next : passed (passed_one window) (length later) ≡ passed start (length (broken_lines p))
    goes_next = passed_more window (length later) ∙ ap (λ (ls : List (Range ℕ)). passed window (length ls)) (sym e) ∙ t.goes_on

    pub taken_outside : {next : Window} → next ≡ passed_one window → is_inside window ≡ false → TakenTo p part start from before notes later next now
    unfolding letters_of notes_of
    taken_outside {next} step f =
        subst (λ (w : Window). TakenTo p part start from before notes later w now) (sym step) (record {
          within = (subst (All (Within p)) e t.within).1;
          goes_on = goes_next;
          taken = subst (Takes from now (part_rows part (looks_of p.sheet.now) (inside start (broken_lines p)))) (rows_next false f ∙ nothing part) t.taken;
          kept = t.kept;
        })
      where
        nothing : (q : Part) → part_rows q (looks_of p.sheet.now) [] ++ part_rows part (looks_of p.sheet.now) (inside (passed_one window) (map (line_at p) later)) ≡ part_rows part (looks_of p.sheet.now) (inside (passed_one window) (map (line_at p) later))
        nothing Lines = refl
        nothing Notes = refl

    pub taken_inside :
        {next : Window} {after : List ℕ} {then : RowWriter} → next ≡ passed_one window → is_inside window ≡ true → TakesAll now then (line_part_rows part p line) → Noted (length p.row.now) notes after →
        TakenTo p part start from before after later next then
    taken_inside {next} {after} {then} step f u k =
        subst (λ (w : Window). TakenTo p part start from before after later w then) (sym step) (record {
          within = (subst (All (Within p)) e t.within).1;
          goes_on = goes_next;
          taken = takes_more t.taken then (part_rows part (looks_of p.sheet.now) (line_at p line ∷ [])) (part_rows part (looks_of p.sheet.now) (inside (passed_one window) (map (line_at p) later))) (rows_next true f)
              (subst (TakesAll now then) (sym (part_one p part line here)) u);
          kept = noted_more (length p.row.now) (length p.row.now) before notes after (omega arith) t.kept k;
        })

  pub taken_all : left ≡ [] → (window ≡ passed start (length (broken_lines p))) × TakesAll from now (part_rows part (looks_of p.sheet.now) (inside start (broken_lines p)))
  unfolding letters_of notes_of
  taken_all e = (
    sym (passed_none window) ∙ ap (λ (ls : List (Range ℕ)). passed window (length ls)) (sym e) ∙ t.goes_on,
    subst (Takes from now (part_rows part (looks_of p.sheet.now) (inside start (broken_lines p)))) (ap (λ (ls : List (Range ℕ)). part_rows part (looks_of p.sheet.now) (inside window (map (line_at p) ls))) e ∙ ap (part_rows part (looks_of p.sheet.now)) (nothing window.left window.skip) ∙ none part) t.taken,
  )
    where
      nothing : (n k : ℕ) → ◌≡◌ {A = List Line} (take n (drop k [])) []
      nothing zero zero = refl
      nothing zero (suc k) = refl
      nothing (suc n) zero = refl
      nothing (suc n) (suc k) = refl

      none : (q : Part) → part_rows q (looks_of p.sheet.now) [] ≡ []
      none Lines = refl
      none Notes = refl
