-- How much a paragraph would be when its commands are gone, by the forms of its tokens.
use Rattle.std.proofs.Common.{◌≡◌, ℕ, zero, suc, ◌+◌, ◌*◌, ◌<◌, true, ltb, leb, List, [], ◌++◌, length, sym, refl, ap, ◌∙◌, ap₂, inl, inr, mul_assoc, add-mul, mul-add, mul_comm, arith}
use Rattle.std.proofs.lemmas.Nat.{mul-le}
use Rattle.std.proofs.lemmas.Bool.{cases_lt, le-leb, lt-leb, ltb-true, and_parts}
use Rattle.meaning.specs.Text.{Token, letter, space, mark, page_of, note, command, given, Tokens, none, more, Atom, digits, digits_in, plainly, flat_one, flat, Definition, defined, meant, atoms}
use Rattle.meaning.specs.Calls.{bulk}
use Rattle.meaning.specs.Sizes.{Form, nothing, together, footed, given_to, form_one, form_of, form_at, Counts, stop, stopped, stopped_at, eight_digits, CountsRight}
use Rattle.meaning.specs.Promise.{in_bytes, in_byte}
use Rattle.meaning.proofs.Bulks.{bulk_append, length_plainly_append}

-- products of sums, as omega wants them: a number that is given b and p times
products : (c a g n b p : ℕ) → c * (a + g * b + n * p) ≡ c * a + c * g * b + c * n * p
products c a g n b p =
    mul-add c (a + g * b) (n * p) ∙ ap₂ (λ x y. x + y) (mul-add c a (g * b) ∙ ap (λ x. c * a + x) (sym (mul_assoc c g b))) (sym (mul_assoc c n p))

product : (c a g p : ℕ) → c * (a + g * p) ≡ c * a + c * g * p
product c a g p = mul-add c a (g * p) ∙ ap (λ x. c * a + x) (sym (mul_assoc c g p))

eight_letters : (bulk (digits 99999999) ≡ 8) × (length (plainly (digits 99999999)) ≡ 8)
unfolding digits_in bulk plainly
eight_letters = (refl, refl)

module _ (arg : List Atom) where
  pub counts_together : (xs ys : List Atom) (f g : Form) → Counts xs f arg → Counts ys g arg → Counts (xs ++ ys) (together f g) arg
  counts_together xs ys f g h i =
      let b : ℕ = bulk arg in
      let p : ℕ = length (plainly arg) in
      record {
        all = omega (arith, bulk_append xs ys, h.all, i.all, add-mul f.given g.given b, add-mul f.noted g.noted p);
        plain = omega (arith, length_plainly_append xs ys, h.plain, i.plain, add-mul f.text_given g.text_given p);
      }

  pub counts_given : (zs xs : List Atom) (c f : Form) → Counts zs c xs → Counts xs f arg → Counts zs (given_to c f) arg
  counts_given zs xs c f h i =
      let b : ℕ = bulk arg in
      let p : ℕ = length (plainly arg) in
      let from_all : c.given * bulk xs ≡ c.given * f.own + c.given * f.given * b + c.given * f.noted * p = ap (λ n. c.given * n) i.all ∙ products c.given f.own f.given f.noted b p in
      let from_plain : c.noted * length (plainly xs) ≡ c.noted * f.text + c.noted * f.text_given * p = ap (λ n. c.noted * n) i.plain ∙ product c.noted f.text f.text_given p in
      let from_text : c.text_given * length (plainly xs) ≡ c.text_given * f.text + c.text_given * f.text_given * p = ap (λ n. c.text_given * n) i.plain ∙ product c.text_given f.text f.text_given p in
      record {
        all = omega (arith, h.all, from_all, from_plain, add-mul (c.given * f.noted) (c.noted * f.text_given) p);
        plain = omega (arith, h.plain, from_text);
      }

  module _ (does : ℕ → List Atom → List Atom) (forms : ℕ → Form) (right : (k : ℕ) (xs : List Atom) → Counts (does k xs) (forms k) xs) where
    mutual
      unfolding bulk plainly

      pub one_counted : (t : Token) → Counts (flat_one t eight_digits does arg) (form_one t forms) arg
      one_counted (letter c) = record { all = omega arith; plain = omega arith }
      one_counted space = record { all = omega arith; plain = omega arith }
      one_counted (mark l) = record { all = omega arith; plain = omega arith }
      one_counted (page_of l) = record { all = omega (arith, eight_letters.0); plain = omega (arith, eight_letters.1) }
      one_counted (note ts) = let h = all_counted ts in record { all = omega (arith, h.plain); plain = omega arith }
      one_counted (command k ts) = counts_given (does k (flat ts eight_digits does arg)) (flat ts eight_digits does arg) (forms k) (form_of ts forms) (right k _) (all_counted ts)
      one_counted given = record { all = omega arith; plain = omega arith }

      pub all_counted : (ts : Tokens) → Counts (flat ts eight_digits does arg) (form_of ts forms) arg
      all_counted none = record { all = omega arith; plain = omega arith }
      all_counted (more t ts) = counts_together _ _ (form_one t forms) (form_of ts forms) (one_counted t) (all_counted ts)

pub command_counted : (n : ℕ) (ds : List Definition) (k : ℕ) (arg : List Atom) → Counts (meant n ds eight_digits k arg) (form_at n ds k) arg
unfolding meant form_at bulk plainly
command_counted zero ds k arg = record { all = omega arith; plain = omega arith }
command_counted (suc n) ds k arg =
    all_counted arg (meant n ds eight_digits) (form_at n ds) (λ j xs. command_counted n ds j xs) (defined ds k (more given none))

pub paragraph_counted : (ds : List Definition) (ts : Tokens) → bulk (atoms ds eight_digits ts) ≡ (form_of ts (form_at 16 ds)).own
unfolding bulk plainly
paragraph_counted ds ts =
    let f : Form = form_of ts (form_at 16 ds) in
    let h = all_counted [] (meant 16 ds eight_digits) (form_at 16 ds) (command_counted 16 ds) ts in omega (arith, h.all)

-- numbers that are told as the same when stopped
abbrev Same : ℕ → ℕ → ℕ → Type 0
Same most a b = stop most a ≡ stop most b

same_sum : (most a b c d : ℕ) → Same most a b → Same most c d → Same most (a + c) (b + d)
same_sum most a b c d h i = omega (arith, h, i)

past_product : (most a c : ℕ) → most < a → most < a * suc c
past_product most a c h = omega (arith, mul-le (suc most) 1 a (suc c) (omega arith) (omega arith))

-- one factor past the limit on both sides
past_both : (most a b c d : ℕ) → most < a → most < b → Same most c d → Same most (a * c) (b * d)
past_both most a b zero zero l m i = omega arith
past_both most a b zero (suc d) l m i = absurd (omega (arith, i))
past_both most a b (suc c) zero l m i = absurd (omega (arith, i))
past_both most a b (suc c) (suc d) l m i = omega (arith, past_product most a c l, past_product most b d m)

same_product : (most a b c d : ℕ) → Same most a b → Same most c d → Same most (a * c) (b * d)
same_product most a b c d h i =
    elim (cases_lt most a) [
      | inl l ↦ past_both most a b c d l (omega (arith, h)) i
      | inr l ↦
          elim (cases_lt most c) [
            | inl m ↦ rw (mul_comm a c, mul_comm b d) (past_both most c d a b m (omega (arith, i)) h)
            | inr m ↦
                let e : a ≡ b = omega (arith, h) in
                let f : c ≡ d = omega (arith, i) in ap₂ (λ x y. stop most (x * y)) e f
          ]
    ]

record SameForm (most : ℕ) (f g : Form) : Type 0 where
  own : Same most f.own g.own
  given : Same most f.given g.given
  noted : Same most f.noted g.noted
  text : Same most f.text g.text
  text_given : Same most f.text_given g.text_given

-- as the statements have it
from_same : (most : ℕ) (f g : Form) → SameForm most f g → stopped most f ≡ stopped most g
from_same most f g h = λ i. record { own = h.own i; given = h.given i; noted = h.noted i; text = h.text i; text_given = h.text_given i }

to_same : (most : ℕ) (f g : Form) → stopped most f ≡ stopped most g → SameForm most f g
to_same most f g e =
    record {
      own = ap (λ (x : Form). x.own) e;
      given = ap (λ (x : Form). x.given) e;
      noted = ap (λ (x : Form). x.noted) e;
      text = ap (λ (x : Form). x.text) e;
      text_given = ap (λ (x : Form). x.text_given) e;
    }

pub stopped_twice : (most : ℕ) (f : Form) → stopped most (stopped most f) ≡ stopped most f
stopped_twice most f = from_same most (stopped most f) f (record { own = omega arith; given = omega arith; noted = omega arith; text = omega arith; text_given = omega arith })

module _ (most : ℕ) (a b c d : Form) (h : stopped most a ≡ stopped most b) where
  hs : SameForm most a b
  hs = to_same most a b h

  pub footed_alike : stopped most (footed a) ≡ stopped most (footed b)
  footed_alike =
      from_same most (footed a) (footed b) (record { own = same_sum most 1 1 a.text b.text refl hs.text; given = refl; noted = hs.text_given; text = refl; text_given = refl })

  module _ (i : stopped most c ≡ stopped most d) where
    is : SameForm most c d
    is = to_same most c d i

    pub together_alike : stopped most (together a c) ≡ stopped most (together b d)
    together_alike =
        from_same most (together a c) (together b d) (record {
          own = same_sum most a.own b.own c.own d.own hs.own is.own;
          given = same_sum most a.given b.given c.given d.given hs.given is.given;
          noted = same_sum most a.noted b.noted c.noted d.noted hs.noted is.noted;
          text = same_sum most a.text b.text c.text d.text hs.text is.text;
          text_given = same_sum most a.text_given b.text_given c.text_given d.text_given hs.text_given is.text_given;
        })

    pub given_alike : stopped most (given_to a c) ≡ stopped most (given_to b d)
    given_alike =
        let by_given : (x y : ℕ) → Same most x y → Same most (a.given * x) (b.given * y) = λ x y e. same_product most a.given b.given x y hs.given e in
        let by_noted : (x y : ℕ) → Same most x y → Same most (a.noted * x) (b.noted * y) = λ x y e. same_product most a.noted b.noted x y hs.noted e in
        let by_text : (x y : ℕ) → Same most x y → Same most (a.text_given * x) (b.text_given * y) = λ x y e. same_product most a.text_given b.text_given x y hs.text_given e in
        from_same most (given_to a c) (given_to b d) (record {
          own =
              same_sum most _ _ _ _ (same_sum most a.own b.own (a.given * c.own) (b.given * d.own) hs.own (by_given c.own d.own is.own))
              (by_noted c.text d.text is.text);
          given = by_given c.given d.given is.given;
          noted = same_sum most _ _ _ _ (by_given c.noted d.noted is.noted) (by_noted c.text_given d.text_given is.text_given);
          text = same_sum most a.text b.text _ _ hs.text (by_text c.text d.text is.text);
          text_given = by_text c.text_given d.text_given is.text_given;
        })

module _ (most : ℕ) (forms others : ℕ → Form) (same : (k : ℕ) → stopped most (forms k) ≡ stopped most (others k)) where
  mutual
    pub one_alike : (t : Token) → stopped most (form_one t forms) ≡ stopped most (form_one t others)
    one_alike (letter c) = refl
    one_alike space = refl
    one_alike (mark l) = refl
    one_alike (page_of l) = refl
    one_alike (note ts) = footed_alike most (form_of ts forms) (form_of ts others) nothing nothing (all_alike ts)
    one_alike (command k ts) = given_alike most (forms k) (others k) (form_of ts forms) (form_of ts others) (same k) (all_alike ts)
    one_alike given = refl

    pub all_alike : (ts : Tokens) → stopped most (form_of ts forms) ≡ stopped most (form_of ts others)
    all_alike none = refl
    all_alike (more t ts) = together_alike most (form_one t forms) (form_one t others) (form_of ts forms) (form_of ts others) (one_alike t) (all_alike ts)

at_alike : (most n : ℕ) (ds : List Definition) (k : ℕ) → stopped_at most n ds k ≡ stopped most (form_at n ds k) → stopped most (stopped_at most n ds k) ≡ stopped most (form_at n ds k)
at_alike most n ds k e = ap (stopped most) e ∙ stopped_twice most (form_at n ds k)

pub when_stopped : (most n : ℕ) (ds : List Definition) (k : ℕ) → stopped_at most n ds k ≡ stopped most (form_at n ds k)
unfolding stopped_at form_at
when_stopped most zero ds k = refl
when_stopped most (suc n) ds k =
    all_alike most (stopped_at most n ds) (form_at n ds) (λ j. at_alike most n ds j (when_stopped most n ds j)) (defined ds k (more given none))

stop_decides : (most n : ℕ) → leb n most ≡ leb (stop most n) most
stop_decides most n =
    elim (cases_lt most n) [
      | inl l ↦ lt-leb n most l ∙ sym (lt-leb (stop most n) most (omega arith))
      | inr l ↦ le-leb n most l ∙ sym (le-leb (stop most n) most (omega arith))
    ]

pub paragraph_within :
    (most : ℕ) (ds : List Definition) (ts : Tokens) →
    leb (bulk (atoms ds eight_digits ts)) most ≡ leb (stopped most (form_of ts (stopped_at most 16 ds))).own most
paragraph_within most ds ts =
    let same = all_alike most (stopped_at most 16 ds) (form_at 16 ds) (λ k. at_alike most 16 ds k (when_stopped most 16 ds k)) ts in
    stop_decides most (bulk (atoms ds eight_digits ts)) ∙ ap (λ n. leb (stop most n) most) (paragraph_counted ds ts)
    ∙ ap (λ (f : Form). leb f.own most) (sym same)

pub counts_right : CountsRight
counts_right = record { of_command = command_counted; of_paragraph = paragraph_counted; when_stopped = when_stopped; within = paragraph_within }

-- of tokens whose numbers a byte can carry only the forms of such commands matter
module _ (forms others : ℕ → Form) (same : (k : ℕ) → k < 256 → forms k ≡ others k) where
  mutual
    pub one_same_below : (t : Token) → in_byte t ≡ true → form_one t forms ≡ form_one t others
    one_same_below (letter c) h = refl
    one_same_below space h = refl
    one_same_below (mark l) h = refl
    one_same_below (page_of l) h = refl
    one_same_below (note ts) h = ap footed (all_same_below ts h)
    one_same_below (command k ts) h =
        let hs : (ltb k 256 ≡ true) × (in_bytes ts ≡ true) = and_parts (ltb k 256) (in_bytes ts) h in
        ap₂ given_to (same k (ltb-true k 256 hs.0)) (all_same_below ts hs.1)
    one_same_below given h = refl

    pub all_same_below : (ts : Tokens) → in_bytes ts ≡ true → form_of ts forms ≡ form_of ts others
    all_same_below none h = refl
    all_same_below (more t ts) h =
        let hs : (in_byte t ≡ true) × (in_bytes ts ≡ true) = and_parts (in_byte t) (in_bytes ts) h in
        ap₂ together (one_same_below t hs.0) (all_same_below ts hs.1)
