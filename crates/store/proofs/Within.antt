-- What is in range is good for the meaning.
use Rattle.std.proofs.Common.{◌≡◌, ℕ, zero, suc, ◌-◌, ◌≤◌, Bool, true, ◌&&◌, leb, List, [], ◌∷◌, get_or, lit≤}
use Rattle.std.proofs.lemmas.Bool.{leb-true, and_parts}
use Rattle.store.specs.Opened.{all_within, limits_in_range, page_in_range, looks_in_range, InRangeGood}

pub all_within_at : (low high d : ℕ) (xs : List ℕ) (i : ℕ) → all_within low high xs ≡ true → low ≤ d → d ≤ high → (low ≤ get_or xs i d) × (get_or xs i d ≤ high)
all_within_at low high d [] i e a b = (a, b)
all_within_at low high d (x ∷ xs) zero e a b =
    let p = and_parts (leb low x && leb x high) (all_within low high xs) e in
    let q = and_parts (leb low x) (leb x high) p.0 in
    (leb-true low x q.0, leb-true x high q.1)
all_within_at low high d (x ∷ xs) (suc i) e a b = all_within_at low high d xs i (and_parts (leb low x && leb x high) (all_within low high xs) e).1 a b

leb_and : (a b : ℕ) (t : Bool) → (leb a b && t) ≡ true → (a ≤ b) × (t ≡ true)
leb_and a b t e = let p = and_parts (leb a b) t e in (leb-true a b p.0, p.1)

pub in_range_good : InRangeGood
in_range_good l g e =
    let parts = and_parts (limits_in_range l) (looks_in_range g) e in
    let paragraphs = leb_and l.paragraphs 4096 _ parts.0 in
    let tokens = leb_and l.tokens 65536 _ paragraphs.1 in
    let definitions = leb_and l.definitions 1024 _ tokens.1 in
    let looks = and_parts (page_in_range g.width g.rows) _ parts.1 in
    let page = and_parts (leb 1 g.width && leb g.width 1000) _ looks.0 in
    let width = leb_and 1 g.width _ page.0 in
    let rows = leb_and 1 g.rows _ page.1 in (
      (paragraphs.0, tokens.0, definitions.0, leb-true l.bulk 4096 definitions.1),
      record {
        wide_enough = λ c. all_within_at 1 63 1 g.widths (c - 32) looks.1 (lit≤ tt) (lit≤ tt);
        across_enough = (width.0, leb-true g.width 1000 width.1);
        rows_enough = (rows.0, leb-true g.rows 255 rows.1);
      },
    )
