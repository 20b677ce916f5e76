-- Numbers in two and in four bytes: what is written is read back, and bytes are written back.
use Rattle.std.proofs.Common.{◌≡◌, ℕ, ◌+◌, ◌*◌, ◌/◌, ◌%◌, ◌<◌, ◌≤◌, true, List, [], ◌∷◌, ◌++◌, length, get_or, drop, sym, ap, ◌∙◌, add_assoc, arith}
use Rattle.std.proofs.lemmas.List.{drop_more}
use Rattle.meaning.specs.Promise.{all_below}
use Rattle.wire.specs.Bytes.{two, four, two_at, four_at}
use Rattle.meaning.proofs.Below.{getD_below, all_below_more, all_below_none}

pub two_at_two : (n : ℕ) (bs : List ℕ) → two_at (two n ++ bs) 0 ≡ n
two_at_two n bs = omega arith

pub four_at_four : (n : ℕ) (bs : List ℕ) → four_at (four n ++ bs) 0 ≡ n
four_at_four n bs = omega arith

-- written in one way only, whatever follows
pub two_and_rest : (m n : ℕ) (bs cs : List ℕ) → two m ++ bs ≡ two n ++ cs → (m ≡ n) × (bs ≡ cs)
two_and_rest m n bs cs e = (sym (two_at_two m bs) ∙ ap (λ ds. two_at ds 0) e ∙ two_at_two n cs, ap (drop 2) e)

pub four_and_rest : (m n : ℕ) (bs cs : List ℕ) → four m ++ bs ≡ four n ++ cs → (m ≡ n) × (bs ≡ cs)
four_and_rest m n bs cs e = (sym (four_at_four m bs) ∙ ap (λ ds. four_at ds 0) e ∙ four_at_four n cs, ap (drop 4) e)

-- bytes are a number that fits
pub two_at_below : (bs : List ℕ) (i : ℕ) → all_below 256 bs ≡ true → two_at bs i < 65536
two_at_below bs i t = omega (arith, getD_below 256 bs i 0 (omega arith) t, getD_below 256 bs (i + 1) 0 (omega arith) t)

pub four_at_below : (bs : List ℕ) (i : ℕ) → all_below 256 bs ≡ true → four_at bs i < 4294967296
four_at_below bs i t =
    let below : (j : ℕ) → get_or bs j 0 < 256 = λ j. getD_below 256 bs j 0 (omega arith) t in
    omega (arith, below i, below (i + 1), below (i + 2), below (i + 3))

two_of : (a b : ℕ) → b < 256 → two (a * 256 + b) ≡ a ∷ (b ∷ [])
two_of a b hb =
    let n : ℕ = a * 256 + b in
    let first : n / 256 ≡ a = omega arith in
    let last : n % 256 ≡ b = omega arith in
    cc

four_of : (a b c d : ℕ) → b < 256 → c < 256 → d < 256 → four (a * 16777216 + b * 65536 + c * 256 + d) ≡ a ∷ (b ∷ (c ∷ (d ∷ [])))
four_of a b c d hb hc hd =
    let n : ℕ = a * 16777216 + b * 65536 + c * 256 + d in
    let first : n / 16777216 ≡ a = omega arith in
    let second : n / 65536 % 256 ≡ b = omega arith in
    let third : n / 256 % 256 ≡ c = omega arith in
    let last : n % 256 ≡ d = omega arith in
    cc

drop_pair : (bs : List ℕ) (i : ℕ) → i + 2 ≤ length bs → drop i bs ≡ get_or bs i 0 ∷ (get_or bs (i + 1) 0 ∷ drop (i + 2) bs)
drop_pair bs i h = drop_more bs i 0 (omega arith) ∙ ap (λ cs. get_or bs i 0 ∷ cs) (rw (add_assoc i 1 1) at (drop_more bs (i + 1) 0 (omega arith)))

pub drop_two : (bs : List ℕ) (i : ℕ) → all_below 256 bs ≡ true → i + 2 ≤ length bs → drop i bs ≡ two (two_at bs i) ++ drop (i + 2) bs
drop_two bs i t h =
    drop_pair bs i h ∙ ap (λ cs. cs ++ drop (i + 2) bs) (sym (two_of (get_or bs i 0) (get_or bs (i + 1) 0) (getD_below 256 bs (i + 1) 0 (omega arith) t)))

pub drop_four : (bs : List ℕ) (i : ℕ) → all_below 256 bs ≡ true → i + 4 ≤ length bs → drop i bs ≡ four (four_at bs i) ++ drop (i + 4) bs
drop_four bs i t h =
    let others : drop (i + 2) bs ≡ get_or bs (i + 2) 0 ∷ (get_or bs (i + 3) 0 ∷ drop (i + 4) bs) =
    rw (add_assoc i 2 1, add_assoc i 2 2) at (drop_pair bs (i + 2) (omega arith)) in
    let below : (j : ℕ) → get_or bs j 0 < 256 = λ j. getD_below 256 bs j 0 (omega arith) t in
    drop_pair bs i (omega arith)
    ∙ rw others (ap (λ cs. cs ++ drop (i + 4) bs) (sym (four_of (get_or bs i 0) (get_or bs (i + 1) 0) (get_or bs (i + 2) 0) (get_or bs (i + 3) 0) (below (i + 1)) (below (i + 2)) (below (i + 3)))))

-- a number that fits is written in bytes
pub two_below : (n : ℕ) → n < 65536 → all_below 256 (two n) ≡ true
two_below n h = all_below_more 256 _ _ (omega arith) (all_below_more 256 _ _ (omega arith) (all_below_none 256))

pub four_below : (n : ℕ) → n < 4294967296 → all_below 256 (four n) ≡ true
four_below n h =
    all_below_more 256 _ _ (omega arith) (all_below_more 256 _ _ (omega arith) (all_below_more 256 _ _ (omega arith) (all_below_more 256 _ _ (omega arith) (all_below_none 256))))
