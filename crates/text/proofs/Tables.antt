-- A table of widths that is filled pair by pair.
use Rattle.std.proofs.Common.{◌≡◌, ℕ, zero, suc, ◌+◌, ◌-◌, ◌<◌, ◌≤◌, cond, eqb, ◌⊎◌, List, [], ◌∷◌, map, length, get_or, set, replicate, Some, None, Ok, Err, Option, Result, unwrap_or, sym, refl, ap, ◌∙◌, subst, inl, inr, arith}
use Rattle.std.specs.List.{range_with_len}
use Rattle.std.proofs.lemmas.List.{get_or-set_same, get_or-set_other, length-set}
use Rattle.std.proofs.lemmas.Bool.{cases_eq, eq-eqb, ne_eqb}
use Rattle.notation.specs.Steps.{then}
use Rattle.text.specs.declared.fault.Fault.{Fault}
use Rattle.text.specs.declared.fault.Fault.TheVariants.{NumberMissing}
use Rattle.text.specs.declared.widths.Key.{Key}
use Rattle.text.specs.declared.widths.Key.TheVariants.{Letter, Others}
use Rattle.text.specs.declared.widths.Table.{Table}
use Rattle.text.specs.Words.{number_of, next_number}
use Rattle.text.specs.Widths.{key_of, HasWidth, pairs_of, named, others, table, widths_of, blank, put, filled}

-- the widths, where pairs come after what a table has
pub table_with : Table → List (Key × ℕ) → List ℕ
table_with t ps = map (λ k. unwrap_or (named (32 + k) ps (get_or t.letters k None)) (others ps t.others)) (range_with_len 0 95)

table_none : (t : Table) → table_with t [] ≡ filled t
unfolding table_with named others
table_none t = refl

getD_nones : (n k : ℕ) → get_or {A = Option ℕ} (replicate n None) k None ≡ None
getD_nones zero k = refl
getD_nones (suc n) zero = refl
getD_nones (suc n) (suc k) = getD_nones n k

table_blank : (ps : List (Key × ℕ)) → table_with blank ps ≡ table ps
unfolding table_with
table_blank ps = λ i. map (λ k. unwrap_or (named (32 + k) ps (getD_nones 95 k i)) (others ps 0)) (range_with_len 0 95)

named_now : (ls : List (Option ℕ)) (c n k : ℕ) → 32 ≤ c → c - 32 < length ls → cond (eqb c (32 + k)) (Some n) (get_or ls k None) ≡ get_or (set ls (c - 32) (Some n)) k None
named_now ls c n k low high = go (cases_eq k (c - 32))
  where
    go : (k ≡ c - 32) ⊎ (k ≡ c - 32 → ⊥) → cond (eqb c (32 + k)) (Some n) (get_or ls k None) ≡ get_or (set ls (c - 32) (Some n)) k None
    go (inl e) = rw (eq-eqb c (32 + k) (omega arith), e) (sym (get_or-set_same ls (c - 32) (Some n) None high))
    go (inr ne) = rw (ne_eqb c (32 + k) (λ e. ne (omega arith))) (sym (get_or-set_other ls (c - 32) k (Some n) None ne))

table_put : (t : Table) (key : Key) (n : ℕ) (ps : List (Key × ℕ)) → HasWidth key → length t.letters ≡ 95 → table_with t ((key, n) ∷ ps) ≡ table_with (put t key n) ps
unfolding table_with named others
table_put t (Letter c) n ps h l = λ i. map (λ k. unwrap_or (named (32 + k) ps (named_now t.letters c n k h.0 (omega arith) i)) (others ps t.others)) (range_with_len 0 95)
table_put t Others n ps h l = refl

length_put : (t : Table) (key : Key) (n : ℕ) → length (put t key n).letters ≡ length t.letters
length_put t (Letter c) n = length-set t.letters (c - 32) (Some n)
length_put t Others n = refl

-- the same, where words are left to be read as pairs
pub widths_with : Table → List (List ℕ) → Result (List ℕ) Fault
widths_with t ws = then (pairs_of ws) (λ ps. Ok (table_with t ps))

-- a table has what was read of all words, and ws are left
pub record SoFar (t : Table) (ws all : List (List ℕ)) : Type 0 where
  pub long : length t.letters ≡ 95
  pub same : widths_with t ws ≡ widths_of all

pub so_far_none : (ws : List (List ℕ)) → SoFar blank ws ws
unfolding widths_with widths_of
so_far_none ws = record { long = refl; same = λ i. then (pairs_of ws) (λ ps. Ok (table_blank ps i)) }

pub so_far_all : (t : Table) (ws all : List (List ℕ)) → ws ≡ [] → SoFar t ws all → Ok (filled t) ≡ widths_of all
unfolding widths_with pairs_of widths_of
so_far_all t ws all e h = ap (λ xs. Ok xs) (sym (table_none t)) ∙ (sym (ap (widths_with t) e) ∙ h.same)

-- what the next number is read as
abbrev Read : Type 0
Read = Result (ℕ × List (List ℕ)) Fault

module _ (t : Table) (name : List ℕ) (all : List (List ℕ)) where
  pub so_far_no_key : (e : Fault) (ws : List (List ℕ)) → Err e ≡ key_of name → SoFar t (name ∷ ws) all → Err e ≡ widths_of all
  unfolding widths_with pairs_of widths_of
  so_far_no_key e [] k so = rw (← k) at so.same
  so_far_no_key e (w ∷ ws) k so = rw (← k) at so.same

  module _ (key : Key) (k : Ok key ≡ key_of name) where
    pub so_far_no_width : (e : Fault) (ws : List (List ℕ)) → Err e ≡ next_number 256 ws → SoFar t (name ∷ ws) all → Err e ≡ widths_of all
    unfolding widths_with pairs_of widths_of
    so_far_no_width e [] x so = let same : e ≡ NumberMissing = cc in ap (λ f. Err f) same ∙ (rw (← k) at so.same)
    so_far_no_width e (w ∷ ws) x so = go (number_of 256 w) x ∙ (rw (← k) at so.same)
      where
        go : (r : Result ℕ Fault) → ◌≡◌ {A = Read} (Err e) (then r (λ n. Ok (n, ws))) → Err e ≡ then (then r (λ n. then (pairs_of ws) (λ ps. Ok ((key, n) ∷ ps)))) (λ ps. Ok (table_with t ps))
        go (Ok n) y = cc
        go (Err d) y = cc

    module _ (h : HasWidth key) (n : ℕ) where
      so_far_pair : (w : List ℕ) (ws : List (List ℕ)) → Ok n ≡ number_of 256 w → SoFar t (name ∷ (w ∷ ws)) all → SoFar (put t key n) ws all
      unfolding widths_with pairs_of widths_of
      so_far_pair w ws x so = record {
        long = length_put t key n ∙ so.long;
        same = sym (rw (← k, ← x) (go (pairs_of ws))) ∙ so.same;
      }
        where
          go : (r : Result (List (Key × ℕ)) Fault) → then (then r (λ ps. Ok ((key, n) ∷ ps))) (λ ps. Ok (table_with t ps)) ≡ then r (λ ps. Ok (table_with (put t key n) ps))
          go (Ok ps) = ap (λ xs. Ok xs) (table_put t key n ps h so.long)
          go (Err e) = refl

      pub so_far_more : (ws rest : List (List ℕ)) → ◌≡◌ {A = Read} (Ok (n, rest)) (next_number 256 ws) → SoFar t (name ∷ ws) all → SoFar (put t key n) rest all
      so_far_more [] rest x so = cc
      so_far_more (w ∷ ws) rest x so = go (number_of 256 w) refl x
        where
          go : (r : Result ℕ Fault) → r ≡ number_of 256 w → ◌≡◌ {A = Read} (Ok (n, rest)) (then r (λ m. Ok (m, ws))) → SoFar (put t key n) rest all
          go (Ok m) is e =
              let both : ◌≡◌ {A = ℕ × List (List ℕ)} (m, ws) (n, rest) = cc in
              subst (λ left. SoFar (put t key n) left all) (ap (λ p. p.1) both) (so_far_pair w ws (ap (λ p. Ok p.0) (sym both) ∙ is) so)
          go (Err d) is e = cc
