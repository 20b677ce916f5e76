-- Memory that holds paragraphs is of bytes for tokens, and of numbers of 64 bits.
use Rattle.std.proofs.Common.{◌≡◌, ℕ, zero, suc, ◌*◌, ◌<◌, true, ltb, List, [], ◌∷◌, ◌++◌, set, replicate, refl, arith, lit<}
use Rattle.std.specs.List.{AllByRecursion as All}
use Rattle.std.proofs.lemmas.Bool.{and_parts, and_from, lt-ltb}
use Rattle.meaning.specs.Text.{Tokens, all_written}
use Rattle.meaning.specs.Calls.{Limits, sizes}
use Rattle.meaning.specs.Pages.{Looks}
use Rattle.meaning.specs.Promise.{GoodLooks, GoodLimits, all_below}
use Rattle.meaning.proofs.Below.{all_below_none, all_below_more, all_below_both, all_below_parts, all_below_replicate}
use Rattle.meaning.proofs.Forms.{length_all_written, all_written_below, good_in_bytes}
use Rattle.wire.specs.Stage.{stage_tokens}
use Rattle.store.specs.Opened.{header, opened, words_asked}
use Rattle.store.proofs.Fresh.{opened_sound}
use Rattle.machine.proofs.Rows.{forms, entry, entries, length_forms}
use Rattle.machine.proofs.Memories.{header_at, header_for, memory}
use Rattle.machine.proofs.Fits.{Good, Fitting}

all_below_set : (b : ℕ) (xs : List ℕ) (i x : ℕ) → x < b → all_below b xs ≡ true → all_below b (set xs i x) ≡ true
unfolding all_below
all_below_set b [] i x h e = refl
all_below_set b (y ∷ xs) zero x h e = and_from _ _ (lt-ltb x b h) (and_parts (ltb y b) (all_below b xs) e).1
all_below_set b (y ∷ xs) (suc i) x h e = let p = and_parts (ltb y b) (all_below b xs) e in and_from _ _ p.0 (all_below_set b xs i x h p.1)

forms_below : (ps : List Tokens) → All Good ps → all_below 256 (forms ps) ≡ true
forms_below [] goods = all_below_none 256
forms_below (p ∷ ps) goods = all_below_both 256 (all_written p) (forms ps) (all_written_below p (good_in_bytes stage_tokens p 16 goods.0)) (forms_below ps goods.1)

entries_below : (b : ℕ) (ps : List Tokens) → 2 * sizes ps < b → all_below b (entries ps) ≡ true
unfolding sizes
entries_below b [] h = all_below_none b
entries_below b (p ∷ ps) h =
    all_below_both b (entry p) (entries ps)
    (all_below_more b _ _ (omega (arith, length_all_written p)) (all_below_more b _ _ (omega arith) (all_below_more b _ _ (omega arith) (all_below_more b _ _ (omega arith) (all_below_none b)))))
    (entries_below b ps (omega arith))

module _ (l : Limits) (g : Looks) (ps : List Tokens) where
  pub tokens_below : All Good ps → all_below 256 (memory l g ps).tokens ≡ true
  unfolding memory
  tokens_below goods = all_below_both 256 (forms ps) (replicate _ 0) (forms_below ps goods) (all_below_replicate 256 _ 0 (lit< tt))

  pub words_below : all_below 18446744073709551616 (memory l g ps).words ≡ true
  unfolding memory
  words_below = all_below_replicate 18446744073709551616 (words_asked l) 0 (lit< tt)

  pub kept_below : GoodLooks g → GoodLimits l → Fitting l ps → all_below 18446744073709551616 (memory l g ps).kept ≡ true
  unfolding memory header_at opened
  kept_below good small few =
      let m : ℕ = 18446744073709551616 in
      let first : all_below m (header l g) ≡ true = (all_below_parts m (header l g) (replicate (4 * l.paragraphs) 0) (opened_sound l g good small).kept_fit).0 in
      let with_counts : all_below m (header_for l g ps) ≡ true =
      all_below_set m _ 6 _ (omega (arith, length_forms ps)) (all_below_set m _ 5 _ (omega arith) (all_below_set m _ 4 _ (omega arith) first)) in
      all_below_both m (header_for l g ps ++ entries ps) (replicate _ 0)
      (all_below_both m (header_for l g ps) (entries ps) with_counts (entries_below m ps (omega arith))) (all_below_replicate m _ 0 (lit< tt))
