-- What writing one row of five numbers leaves as it was.
use Rattle.std.proofs.Common.{◌≡◌, ◌≢◌, ℕ, ◌+◌, ◌*◌, ◌<◌, List, get_or, set, ◌∙◌, inl, inr, arith}
use Rattle.std.proofs.lemmas.List.{get_or-set_other}
use Rattle.std.proofs.lemmas.Bool.{cases_lt}
use Rattle.meaning.specs.Sizes.{Form}
use Rattle.expand.specs.Forms.{row_form}

-- a list with five numbers written from a place on
abbrev pub with_row : List ℕ → ℕ → Form → List ℕ
with_row xs at f = set (set (set (set (set xs at f.own) (at + 1) f.given) (at + 2) f.noted) (at + 3) f.text) (at + 4) f.text_given

kept_at : (xs : List ℕ) (at : ℕ) (f : Form) (i : ℕ) → i ≢ at → i ≢ at + 1 → i ≢ at + 2 → i ≢ at + 3 → i ≢ at + 4 → get_or (with_row xs at f) i 0 ≡ get_or xs i 0
kept_at xs at f i n0 n1 n2 n3 n4 =
    let a : List ℕ = set xs at f.own in
    let b : List ℕ = set a (at + 1) f.given in
    let c : List ℕ = set b (at + 2) f.noted in
    let d : List ℕ = set c (at + 3) f.text in
    get_or-set_other d (at + 4) i f.text_given 0 n4 ∙ get_or-set_other c (at + 3) i f.text 0 n3 ∙ get_or-set_other b (at + 2) i f.noted 0 n2
    ∙ get_or-set_other a (at + 1) i f.given 0 n1 ∙ get_or-set_other xs at i f.own 0 n0

kept_before : (xs : List ℕ) (at : ℕ) (f : Form) (i : ℕ) → i < at → get_or (with_row xs at f) i 0 ≡ get_or xs i 0
kept_before xs at f i l = kept_at xs at f i (λ e. omega (arith, e)) (λ e. omega (arith, e)) (λ e. omega (arith, e)) (λ e. omega (arith, e)) (λ e. omega (arith, e))

kept_behind : (xs : List ℕ) (at : ℕ) (f : Form) (i : ℕ) → at + 4 < i → get_or (with_row xs at f) i 0 ≡ get_or xs i 0
kept_behind xs at f i l = kept_at xs at f i (λ e. omega (arith, e)) (λ e. omega (arith, e)) (λ e. omega (arith, e)) (λ e. omega (arith, e)) (λ e. omega (arith, e))

pub other_row : (xs : List ℕ) (j : ℕ) (f : Form) (k : ℕ) → k ≢ j → row_form (with_row xs (5 * j) f) k ≡ row_form xs k
other_row xs j f k n =
    elim (cases_lt k j) [
      | inl l ↦
          let at0 = kept_before xs (5 * j) f (5 * k) (omega arith) in
          let at1 = kept_before xs (5 * j) f (5 * k + 1) (omega arith) in
          let at2 = kept_before xs (5 * j) f (5 * k + 2) (omega arith) in
          let at3 = kept_before xs (5 * j) f (5 * k + 3) (omega arith) in
          let at4 = kept_before xs (5 * j) f (5 * k + 4) (omega arith) in λ i. record { own = at0 i; given = at1 i; noted = at2 i; text = at3 i; text_given = at4 i }
      | inr l ↦
          let at0 = kept_behind xs (5 * j) f (5 * k) (omega (arith, n)) in
          let at1 = kept_behind xs (5 * j) f (5 * k + 1) (omega (arith, n)) in
          let at2 = kept_behind xs (5 * j) f (5 * k + 2) (omega (arith, n)) in
          let at3 = kept_behind xs (5 * j) f (5 * k + 3) (omega (arith, n)) in
          let at4 = kept_behind xs (5 * j) f (5 * k + 4) (omega (arith, n)) in λ i. record { own = at0 i; given = at1 i; noted = at2 i; text = at3 i; text_given = at4 i }
    ]
