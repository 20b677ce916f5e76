-- A call read by its first byte and its fields.
use Rattle.std.proofs.Common.{◌≡◌, ℕ, zero, suc, ◌+◌, ◌<◌, min, ltb, ◌⊎◌, List, [], ◌∷◌, length, take, drop, Ok, Err, Result, sym, refl, ap, ◌∙◌, inl, inr, arith, Bor}
use Rattle.std.proofs.lemmas.List.{append-nil, get_or-take}
use Rattle.std.proofs.lemmas.Bool.{le-ltb, cases_order}
use Rattle.std.proofs.lemmas.Result.{err_from_is_err_and}
use Rattle.std.specs.Result.{IsErrAnd}
use Rattle.meaning.specs.Text.{Tokens, all_written}
use Rattle.meaning.specs.Calls
use Rattle.meaning.specs.Calls.{put, cut, define, show, where_is, how_many, put_in}
use Rattle.meaning.proofs.Picks.{pick_false}
use Rattle.wire.specs.Bytes.{Parsed, whole, broken, parsed, tokens_of, Reading, is_call, stops, two_at, four_at, exactly, to_the_end, with_tokens, reading_by, reading}
use Rattle.wire.specs.Kinds.{call_byte}
use Rattle.wire.specs.Cut.{extent_in, extent_of}
use Rattle.wire.specs.Reads.{Whole, ReadsTokens, call_of, WholeTokens, Reads}
use Rattle.wire.specs.declared.refusal.Unreadable.{Unreadable}
use Rattle.wire.specs.declared.kind.CallKind.{CallKind}
use Rattle.wire.specs.declared.kind.CallKind.TheVariants as Kinds
use Rattle.wire.specs.declared.call.Call.{Call}
use Rattle.wire.specs.declared.token.Extent.{Extent}
use Rattle.wire.specs.declared.token.Extent.TheVariants.{End, Close, Break}
use Rattle.wire.proofs.Courses.{parsed_whole}
use Rattle.wire.proofs.Readings.{exactly_of, exactly_shorter, exactly_longer}

-- what a call of a kind is, by its fields
abbrev pub reading_of_kind : CallKind → List ℕ → Reading
reading_of_kind Kinds.Put fs = with_tokens put fs
reading_of_kind Kinds.Cut fs = exactly 2 fs (cut (two_at fs 0))
reading_of_kind Kinds.Define fs = with_tokens define fs
reading_of_kind Kinds.Show fs = exactly 8 fs (show (four_at fs 0) (two_at fs 4) (two_at fs 6))
reading_of_kind Kinds.WhereIs fs = exactly 2 fs (where_is (two_at fs 0))
reading_of_kind Kinds.HowMany fs = exactly 0 fs how_many
reading_of_kind Kinds.PutIn fs = with_tokens put_in fs

reading_kind : (kind : CallKind) (fs : List ℕ) → reading (call_byte kind ∷ fs) ≡ reading_of_kind kind fs
unfolding reading reading_by
reading_kind Kinds.Put fs = refl
reading_kind Kinds.Cut fs = refl
reading_kind Kinds.Define fs = refl
reading_kind Kinds.Show fs = refl
reading_kind Kinds.WhereIs fs = refl
reading_kind Kinds.HowMany fs = refl
reading_kind Kinds.PutIn fs = refl

module _ {kind known : CallKind} (is : kind ≡ known) (fs : List ℕ) where
  reads_as : reading (call_byte kind ∷ fs) ≡ reading_of_kind known fs
  reads_as = reading_kind kind fs ∙ ap (λ k. reading_of_kind k fs) is

  stopped : (stop : Unreadable) (r : Result Call Unreadable) → IsErrAnd r (λ e. e ≡ stop) → reading_of_kind known fs ≡ stops stop.at → Reads (call_byte kind ∷ fs) r
  stopped stop r so e =
      let p = err_from_is_err_and r so in
      rw (p.1, p.2) (record { value = reads_as ∙ e; part = tt })

  -- calls of a fixed length
  pub fixed_stops :
      (n : ℕ) {stop : Unreadable} (c : Calls.Call) {r : Result Call Unreadable} → reading_of_kind known fs ≡ exactly n fs c → (length fs ≡ n → ⊥) × (stop.at ≡ 1 + min (length fs) n) →
      IsErrAnd r (λ e. e ≡ stop) → Reads (call_byte kind ∷ fs) r
  fixed_stops n {stop} c {r} e at so = stopped stop r so (e ∙ by_length (cases_order (length fs) n))
    where
      by_length : (length fs ≡ n) ⊎ ((length fs < n) ⊎ (n < length fs)) → exactly n fs c ≡ stops stop.at
      by_length (inl same) = absurd (at.0 same)
      by_length (inr (inl fewer)) = exactly_shorter n fs c fewer ∙ ap stops (omega arith)
      by_length (inr (inr more)) = exactly_longer n fs c more ∙ ap stops (omega arith)

  pub fixed_reads :
      (n : ℕ) (c : Calls.Call) (call : Call) → reading_of_kind known fs ≡ exactly n fs c → length fs ≡ n → c ≡ call_of call → WholeTokens call → Reads (call_byte kind ∷ fs) (Ok call)
  fixed_reads n c call e long same so_whole = record { value = reads_as ∙ (e ∙ (exactly_of n fs c long ∙ ap is_call same)); part = so_whole }

  -- calls with tokens
  pub tokens_stops :
      (make : ℕ → Tokens → Calls.Call) {stop : Unreadable} {r : Result Call Unreadable} → reading_of_kind known fs ≡ with_tokens make fs → ReadsTokens fs (Err stop) →
      IsErrAnd r (λ e. e ≡ stop) → Reads (call_byte kind ∷ fs) r
  tokens_stops make {stop} {r} e t so = stopped stop r so (e ∙ t.value make)

  pub tokens_reads :
      (make : ℕ → Tokens → Calls.Call) {n : ℕ} {part : Bor (List ℕ)} (call : Call) → reading_of_kind known fs ≡ with_tokens make fs → ReadsTokens fs (Ok (n, part)) →
      make n (tokens_of part.now) ≡ call_of call → (Whole part → WholeTokens call) → Reads (call_byte kind ∷ fs) (Ok call)
  tokens_reads make {n} {part} call e t same so_whole = record { value = reads_as ∙ (e ∙ (t.value make ∙ ap is_call same)); part = so_whole t.part }

-- bytes that begin no call
pub stops_first : (bs : List ℕ) (stop : Unreadable) (r : Result Call Unreadable) → reading bs ≡ stops 0 → stop.at ≡ 0 → IsErrAnd r (λ e. e ≡ stop) → Reads bs r
stops_first bs stop r e at so =
    let p = err_from_is_err_and r so in
    rw (p.1, p.2) (record { value = e ∙ ap stops (sym at); part = tt })

pub no_byte : (bs : List ℕ) → bs ≡ [] → reading bs ≡ stops 0
unfolding reading
no_byte bs e = rw e refl

pub unknown_byte : (bs : List ℕ) (x : ℕ) (fs : List ℕ) → bs ≡ x ∷ fs → 6 < x → reading bs ≡ stops 0
unfolding reading reading_by
unknown_byte bs x fs e h = ap reading e ∙ past x h
  where
    past : (x : ℕ) → 6 < x → reading_by x fs ≡ stops 0
    past zero h = absurd (omega arith)
    past (suc zero) h = absurd (omega arith)
    past (suc (suc zero)) h = absurd (omega arith)
    past (suc (suc (suc zero))) h = absurd (omega arith)
    past (suc (suc (suc (suc zero)))) h = absurd (omega arith)
    past (suc (suc (suc (suc (suc zero))))) h = absurd (omega arith)
    past (suc (suc (suc (suc (suc (suc zero)))))) h = absurd (omega arith)
    past (suc (suc (suc (suc (suc (suc (suc k))))))) h = refl

-- tokens to the end, by how far bytes are tokens
ends_or_stops : (Tokens → Calls.Call) → ℕ → List ℕ → Extent → Reading
ends_or_stops make at bs End = is_call (make (tokens_of bs))
ends_or_stops make at bs (Close n) = stops (at + n)
ends_or_stops make at bs (Break n) = stops (at + n)

to_the_end_is : (make : Tokens → Calls.Call) (at : ℕ) (bs : List ℕ) → to_the_end make at bs (parsed bs) ≡ ends_or_stops make at bs (extent_of bs)
unfolding ends_or_stops
to_the_end_is make at bs = go (parsed bs) refl
  where
    go : (p : Parsed) → parsed bs ≡ p → to_the_end make at bs p ≡ ends_or_stops make at bs (extent_in bs p)
    go (whole ts []) e = rw e refl
    go (whole ts (x ∷ left)) e = refl
    go (broken ts left) e = refl

whole_from_end : (bs : List ℕ) → End ≡ extent_of bs → bs ≡ all_written (tokens_of bs)
whole_from_end bs e = go (parsed bs) refl e
  where
    go : (p : Parsed) → parsed bs ≡ p → End ≡ extent_in bs p → bs ≡ all_written (tokens_of bs)
    go (whole ts []) q f = rw q ((parsed_whole bs ts [] q).0 ∙ append-nil (all_written ts))
    go (whole ts (x ∷ left)) q f = absurd (cc)
    go (broken ts left) q f = absurd (cc)

module _ (fs : List ℕ) (number tokens : Bor (List ℕ)) (parts : (number.now ≡ take 2 fs) × (tokens.now ≡ drop 2 fs) × (length tokens.now + 2 ≡ length fs)) where
  with_tokens_is : (make : ℕ → Tokens → Calls.Call) → with_tokens make fs ≡ ends_or_stops (make (two_at fs 0)) 3 tokens.now (extent_of tokens.now)
  with_tokens_is make =
      pick_false (ltb (length fs) 2) _ _ (le-ltb (length fs) 2 (omega arith))
      ∙ (to_the_end_is (make (two_at fs 0)) 3 (drop 2 fs) ∙ ap (λ bs. ends_or_stops (make (two_at fs 0)) 3 bs (extent_of bs)) (sym parts.1))

  number_is : two_at number.now 0 ≡ two_at fs 0
  number_is = ap (λ xs. two_at xs 0) parts.0 ∙ rw (get_or-take 2 fs 0 0 (omega arith), get_or-take 2 fs 1 0 (omega arith)) refl

  pub number_and_tokens : (n : ℕ) → n ≡ two_at number.now 0 → End ≡ extent_of tokens.now → ReadsTokens fs (Ok (n, tokens))
  unfolding ends_or_stops
  number_and_tokens n e g =
      record {
        value = λ make. with_tokens_is make ∙ (ap (ends_or_stops (make (two_at fs 0)) 3 tokens.now) (sym g) ∙ rw (e, number_is) refl);
        part = whole_from_end tokens.now g;
      }
