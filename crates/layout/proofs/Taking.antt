-- Rows that are passed over, and rows that are written.
use Rattle.std.proofs.Common.{◌≡◌, ℕ, zero, suc, ◌+◌, ◌-◌, ◌<◌, ◌≤◌, List, [], ◌∷◌, ◌++◌, length, take, drop, sym, refl, ap, ◌∙◌, ap₂, arith}
use Rattle.std.proofs.lemmas.List.{append-nil, append_assoc, length-append, take-append-drop}
use Rattle.meaning.specs.Lines.{Placed}
use Rattle.wire.specs.Bytes.{row_bytes, rows_bytes}
use Rattle.layout.specs.Finishes.{rows_left, finish, finish_at, Takes, TakesAll}
use Rattle.layout.specs.declared.rows.RowWriter.{RowWriter}
use Rattle.layout.proofs.Writing.{written, written_more}

-- what is written of rows, after so many, and where
abbrev bytes_of : ℕ → ℕ → List (List Placed) → List ℕ
bytes_of skip left ls = rows_bytes (take left (drop skip ls))

module _ (w v : RowWriter) (x : List Placed) (lent : v.out.ghost_name ≡ w.out.ghost_name) where
  -- a row that is passed over
  module _ (some : 0 < w.skip) (out : v.out.now ≡ w.out.now) (skip : v.skip ≡ w.skip - 1) (left : v.left ≡ w.left) (end : v.end ≡ w.end) where
    one_less : (more : List (List Placed)) → rows_left v more ≡ rows_left w (x ∷ more)
    one_less more = ap₂ (λ n k. take n (drop k more)) left skip ∙ go w.skip some
      where
        go : (k : ℕ) → 0 < k → take w.left (drop (k - 1) more) ≡ take w.left (drop k (x ∷ more))
        go zero h = absurd (omega arith)
        go (suc k) h = let e : suc k - 1 ≡ k = omega arith in ap (λ j. take w.left (drop j more)) e

    pub passes : TakesAll w v (x ∷ [])
    unfolding finish finish_at
    passes =
        record {
          lent = lent;
          bytes = λ more.
              ap₂ (λ (n : ℕ) (o : List ℕ). written n (rows_bytes (rows_left v more)) o) end out
              ∙ ap (λ (xs : List (List Placed)). written w.end (rows_bytes xs) w.out.now) (one_less more);
          end = λ more. ap₂ (λ (n : ℕ) (xs : List (List Placed)). n + length (rows_bytes xs)) end (one_less more);
        }

  -- a row that is written
  module _
      (none : w.skip ≡ 0) (some : 0 < w.left) (fits : w.end + length (row_bytes x) ≤ length w.out.now)
      (out : v.out.now ≡ written w.end (row_bytes x) w.out.now) (skip : v.skip ≡ w.skip) (left : v.left ≡ w.left - 1) (end : v.end ≡ w.end + length (row_bytes x))
    where
      abbrev behind : List (List Placed) → List (List Placed)
      behind more = take (w.left - 1) more

      then_left : (more : List (List Placed)) → rows_left v more ≡ behind more
      then_left more = ap₂ (λ n k. take n (drop k more)) left (skip ∙ none)

      first_left : (more : List (List Placed)) → x ∷ behind more ≡ rows_left w (x ∷ more)
      first_left more = sym (ap (λ k. take w.left (drop k (x ∷ more))) none ∙ go w.left some)
        where
          go : (n : ℕ) → 0 < n → take n (x ∷ more) ≡ x ∷ take (n - 1) more
          go zero h = absurd (omega arith)
          go (suc n) h = let f : suc n - 1 ≡ n = omega arith in ap (λ j. x ∷ take j more) (sym f)

      pub writes : TakesAll w v (x ∷ [])
      unfolding finish finish_at rows_bytes
      writes =
          record {
            lent = lent;
            bytes = λ more.
                ap₂ (λ (n : ℕ) (o : List ℕ). written n (rows_bytes (rows_left v more)) o) end out
                ∙ ap (λ (xs : List (List Placed)). written (w.end + length (row_bytes x)) (rows_bytes xs) (written w.end (row_bytes x) w.out.now)) (then_left more)
                ∙ written_more w.out.now w.end (row_bytes x) (rows_bytes (behind more)) fits
                ∙ ap (λ (xs : List (List Placed)). written w.end (rows_bytes xs) w.out.now) (first_left more);
            end = λ more.
                ap₂ (λ (n : ℕ) (xs : List (List Placed)). n + length (rows_bytes xs)) end (then_left more)
                ∙ omega (arith, length-append (row_bytes x) (rows_bytes (behind more)))
                ∙ ap (λ (xs : List (List Placed)). w.end + length (rows_bytes xs)) (first_left more);
          }

-- nothing is wanted any more
none_left : (w : RowWriter) (xs ys : List (List Placed)) → w.left ≡ 0 → rows_left w xs ≡ rows_left w ys
none_left w xs ys e = ap (λ n. take n (drop w.skip xs)) e ∙ sym (ap (λ n. take n (drop w.skip ys)) e)

finish_done : (w : RowWriter) (xs ys : List (List Placed)) → w.left ≡ 0 → finish w xs ≡ finish w ys
unfolding finish
finish_done w xs ys e = ap (λ (zs : List (List Placed)). written w.end (rows_bytes zs) w.out.now) (none_left w xs ys e)

finish_done_at : (w : RowWriter) (xs ys : List (List Placed)) → w.left ≡ 0 → finish_at w xs ≡ finish_at w ys
unfolding finish_at
finish_done_at w xs ys e = ap (λ (zs : List (List Placed)). w.end + length (rows_bytes zs)) (none_left w xs ys e)

-- where the text ends, nothing more is written
nothing_comes : (n k : ℕ) → ◌≡◌ {A = List (List Placed)} (take n (drop k [])) []
nothing_comes zero zero = refl
nothing_comes zero (suc k) = refl
nothing_comes (suc n) zero = refl
nothing_comes (suc n) (suc k) = refl

pub finish_end : (w : RowWriter) → finish w [] ≡ w.out.now
unfolding finish rows_bytes
finish_end w = ap (λ (zs : List (List Placed)). written w.end (rows_bytes zs) w.out.now) (nothing_comes w.left w.skip) ∙ take-append-drop w.end w.out.now

pub finish_end_at : (w : RowWriter) → finish_at w [] ≡ w.end
unfolding finish_at rows_bytes
finish_end_at w = ap (λ (zs : List (List Placed)). w.end + length (rows_bytes zs)) (nothing_comes w.left w.skip) ∙ omega arith

-- some rows after the others, until all have come, or no more are wanted
pub takes_none : (w : RowWriter) (all : List (List Placed)) → Takes w w all all
takes_none w all = record { lent = refl; bytes = λ more. refl; end = λ more. refl }

module _ {a b : RowWriter} {all left : List (List Placed)} (t : Takes a b all left) where
  pub takes_more : (c : RowWriter) (xs ys : List (List Placed)) → left ≡ xs ++ ys → TakesAll b c xs → Takes a c all ys
  takes_more c xs ys e u =
      let both : (more : List (List Placed)) → xs ++ (ys ++ more) ≡ left ++ more = λ more. sym (append_assoc xs ys more) ∙ ap (λ (zs : List (List Placed)). zs ++ more) (sym e) in
      record {
        lent = u.lent ∙ t.lent;
        bytes = λ more. u.bytes (ys ++ more) ∙ (ap (finish b) (both more) ∙ t.bytes more);
        end = λ more. u.end (ys ++ more) ∙ (ap (finish_at b) (both more) ∙ t.end more);
      }

  pub takes_done : b.left ≡ 0 → TakesAll a b all
  takes_done e =
      record {
        lent = t.lent;
        bytes = λ more. finish_done b more (left ++ more) e ∙ t.bytes more;
        end = λ more. finish_done_at b more (left ++ more) e ∙ t.end more;
      }

-- what stands there when all have come
module _ {a b : RowWriter} {all : List (List Placed)} (t : TakesAll a b all) where
  pub all_taken : b.out.now ≡ finish a all
  all_taken = sym (finish_end b) ∙ (t.bytes [] ∙ ap (finish a) (append-nil all))

  pub all_taken_at : b.end ≡ finish_at a all
  all_taken_at = sym (finish_end_at b) ∙ (t.end [] ∙ ap (finish_at a) (append-nil all))
