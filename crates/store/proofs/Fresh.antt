-- What a book that was just opened holds: its header and the zeros behind it.
use Rattle.std.proofs.Common.{◌≡◌, ℕ, ◌+◌, ◌-◌, ◌*◌, ◌<◌, ◌≤◌, true, List, [], ◌∷◌, ◌++◌, map, length, take, drop, replicate, sym, refl, ap, ◌∙◌, ap₂, arith, lit<}
use Rattle.std.specs.List.{range_with_len}
use borrow.Rule.Slice.PartMut.{put_mid}
use Rattle.std.proofs.lemmas.List.{append_assoc, length-append, length-replicate, length-take-le, drop-append-le, drop-replicate, replicate-append-replicate}
use Rattle.std.proofs.lemmas.Bool.{lt-ltb}
use Rattle.meaning.specs.Calls
use Rattle.meaning.specs.Pages
use Rattle.meaning.specs.Promise.{GoodLooks, GoodLimits, all_below}
use Rattle.meaning.proofs.Below.{all_below_none, all_below_more, all_below_both, all_below_replicate}
use Rattle.wire.specs.Bytes.{over}
use Rattle.store.specs.declared.opening.Limits.{Limits}
use Rattle.store.specs.declared.opening.Looks.{Looks}
use Rattle.store.specs.Opened.{looks_of, packed, packed_widths, header, header_of, tokens_asked, kept_asked, words_asked, rest_asked, opened, rest_of, OpenedSound}

-- the header, as it is written part by part over zeros
abbrev header_from : List ℕ → List ℕ → List ℕ → List ℕ
header_from ls page widths = put_mid 12 12 (put_mid 10 2 (ls ++ replicate 60 0) page) widths

pub header_with :
    (l : Limits) (g : Looks) {ls page widths : List ℕ} → ls ≡ l.paragraphs ∷ (l.tokens ∷ (l.definitions ∷ (l.bulk ∷ []))) → page ≡ g.width ∷ (g.rows ∷ []) → widths ≡ packed_widths (looks_of g).wide →
    header_from ls page widths ≡ header_of l g
unfolding header
header_with l g a b c = λ i. header_from (a i) (b i) (c i)

pub length_header : (l : Calls.Limits) (g : Pages.Looks) → length (header l g) ≡ 64
unfolding header
length_header l g = refl

zeros : ℕ → List ℕ
zeros n = replicate n 0

-- zeros from the start of a slice up to n, and what was there behind
module _ (n : ℕ) (xs ys : List ℕ) (long : n ≤ length xs) (clear : ys ≡ replicate (length (take n xs)) 0) where
  cleared : ys ++ drop n xs ≡ zeros n ++ drop n xs
  unfolding zeros
  cleared = ap (λ f. f ++ drop n xs) (clear ∙ ap zeros (length-take-le n xs long))

  pub fresh_tokens : (l : Calls.Limits) (g : Pages.Looks) → n ≡ tokens_asked l → ys ++ drop n xs ≡ over (opened l g).tokens xs
  unfolding opened zeros
  fresh_tokens l g e = cleared ∙ ap₂ (λ m k. zeros m ++ drop k xs) e (e ∙ sym (length-replicate (tokens_asked l) 0))

  zeros_behind : (hs : List ℕ) (h a b : ℕ) → length hs ≡ h → n ≡ h + a + b → hs ++ drop h (ys ++ drop n xs) ≡ over ((hs ++ zeros a) ++ zeros b) xs
  unfolding zeros
  zeros_behind hs h a b e s =
      let fits : h ≤ length (zeros n) = rw length-replicate (omega arith) in
      let left : n - h ≡ a + b = omega arith in
      let whole : n ≡ length ((hs ++ zeros a) ++ zeros b) = simp (length-append, length-replicate) (omega arith) in
      ap (λ t. hs ++ drop h t) cleared
      ∙ (ap (λ t. hs ++ t) (drop-append-le h (zeros n) (drop n xs) fits ∙ ap (λ t. t ++ drop n xs) (drop-replicate h n 0 ∙ (ap zeros left ∙ sym (replicate-append-replicate a b 0))))
      ∙ (simp append_assoc refl ∙ ap (λ m. ((hs ++ zeros a) ++ zeros b) ++ drop m xs) whole))

  pub fresh_rest : (l : Calls.Limits) (g : Pages.Looks) (hs : List ℕ) → hs ≡ header l g → n ≡ rest_asked l → hs ++ drop 64 (ys ++ drop n xs) ≡ over (rest_of (opened l g)) xs
  unfolding opened zeros
  fresh_rest l g hs e s =
      zeros_behind hs 64 (4 * l.paragraphs) (words_asked l) (ap length e ∙ length_header l g) s
      ∙ ap (λ h. over ((h ++ zeros (4 * l.paragraphs)) ++ zeros (words_asked l)) xs) e

packed_below : (g : Pages.Looks) → GoodLooks g → (c : ℕ) → packed g.wide c < 18446744073709551616
unfolding packed
packed_below g good c =
    let w : (d : ℕ) → g.wide d ≤ 63 = λ d. (good.wide_enough d).1 in
    omega (arith, w c, w (c + 1), w (c + 2), w (c + 3), w (c + 4), w (c + 5), w (c + 6), w (c + 7))

all_below_map : (b : ℕ) (f : ℕ → ℕ) (xs : List ℕ) → ((x : ℕ) → f x < b) → all_below b (map f xs) ≡ true
all_below_map b f [] h = all_below_none b
all_below_map b f (x ∷ xs) h = all_below_more b (f x) (map f xs) (h x) (all_below_map b f xs h)

header_below : (l : Calls.Limits) (g : Pages.Looks) → GoodLooks g → GoodLimits l → all_below 18446744073709551616 (header l g) ≡ true
unfolding header all_below
header_below l g good few =
    let m : ℕ = 18446744073709551616 in
    let widths = all_below_both m (packed_widths g.wide) (replicate 40 0) (all_below_map m _ (range_with_len 0 12) (λ k. packed_below g good (32 + 8 * k))) (all_below_replicate m 40 0 (lit< tt)) in
    rw (lt-ltb l.paragraphs m (omega arith), lt-ltb l.tokens m (omega arith), lt-ltb l.definitions m (omega arith), lt-ltb l.bulk m (omega arith), lt-ltb g.across m (omega arith), lt-ltb g.rows m (omega arith)) widths

pub opened_sound : OpenedSound
unfolding opened
opened_sound l g good few =
    let m : ℕ = 18446744073709551616 in
    let kept_long : length (header l g ++ replicate (4 * l.paragraphs) 0) ≡ kept_asked l = simp (length-append, length-replicate, length_header l g) in
    record {
      tokens_long = length-replicate (tokens_asked l) 0;
      tokens_few = omega arith;
      tokens_fit = all_below_replicate 256 (tokens_asked l) 0 (lit< tt);
      rest_long = rw (length-replicate, kept_long) (omega arith);
      rest_few = omega arith;
      words_fit = all_below_replicate m (words_asked l) 0 (lit< tt);
      kept_few = rw kept_long (omega arith);
      kept_fit = all_below_both m (header l g) (replicate (4 * l.paragraphs) 0) (header_below l g good few) (all_below_replicate m (4 * l.paragraphs) 0 (lit< tt));
    }
