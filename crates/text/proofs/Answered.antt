-- Answers are read back from their bytes.
use Rattle.std.proofs.Common.{◌≡◌, ℕ, ◌*◌, List, [], ◌∷◌, ◌++◌, length, Some, sym, refl, ap, ◌∙◌, arith, length-append}
use Rattle.std.specs.Option.{option_map}
use Rattle.std.proofs.lemmas.List.{take_at, drop_at}
use Rattle.meaning.specs.Lines.{Placed}
use Rattle.meaning.specs.Calls.{Answer, done, refused, rows, numbers}
use Rattle.wire.specs.Bytes.{four, letters_bytes, row_bytes, rows_bytes, answer_bytes}
use Rattle.wire.proofs.Answered.{length_letters_bytes}
use Rattle.wire.proofs.Fields.{two_at_two, four_at_four}
use Rattle.text.specs.Laws.{AnswersShown}
use Rattle.text.specs.Rows.{letters_of, row_first, row_then, rows_in}
use Rattle.text.specs.Shown.{answer_in, shown_by}
use Rattle.text.proofs.RowParts.{row_whole}

letters_back : (ps : List Placed) → letters_of (letters_bytes ps) ≡ ps
unfolding letters_bytes letters_of
letters_back [] = refl
letters_back (p ∷ ps) = λ i. record { at = four_at_four p.at [] i; what = p.what } ∷ letters_back ps i

row_back : (ps : List Placed) (bs : List ℕ) → row_first (row_bytes ps ++ bs) ≡ Some (letters_bytes ps, bs)
row_back ps bs =
    let long = length_letters_bytes ps in
    row_whole (row_bytes ps ++ bs) (5 * length ps) (ap (λ n. 5 * n) (sym (two_at_two (length ps) (letters_bytes ps ++ bs)))) (omega (arith, length-append (letters_bytes ps) bs))
    ∙ (λ i. Some (take_at (letters_bytes ps) bs (5 * length ps) long i, drop_at (letters_bytes ps) bs (5 * length ps) long i))

rows_back : (rs : List (List Placed)) → rows_in (length rs) (rows_bytes rs) ≡ Some rs
unfolding rows_bytes rows_in
rows_back [] = refl
rows_back (r ∷ rs) =
    ap (row_then (rows_in (length rs))) (row_back r (rows_bytes rs))
    ∙ (λ i. option_map (λ qs. letters_back r i ∷ qs) (rows_back rs i))

pub answer_back : (a : Answer) → answer_in (answer_bytes a) ≡ Some a
unfolding answer_bytes answer_in
answer_back done = refl
answer_back (refused n p) = λ i. Some (refused n (four_at_four p [] i))
answer_back (rows rs) = ap (option_map rows) (rows_back rs)
answer_back (numbers a b) = λ i. Some (numbers (four_at_four a (four b) i) (four_at_four b [] i))

pub answers_shown : AnswersShown
answers_shown q a = ap (shown_by q) (answer_back a)
