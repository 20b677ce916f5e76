-- Bytes as calls: what is written is read back, only that is read, and reading stops at the first byte that fits no call.
use Rattle.std.proofs.Common.{◌≡◌, ℕ, zero, suc, ◌+◌, ◌-◌, ◌*◌, ◌/◌, ◌%◌, ◌<◌, ◌≤◌, Bool, true, false, ◌&&◌, ltb, ◌⊎◌, List, [], ◌∷◌, ◌++◌, length, take, drop, replicate, sym, refl, ap, ◌∙◌, subst, subst₂, inl, inr, append_assoc, append-nil, arith, length-append}
use lib.ListN.{length-replicate}
use Rattle.std.proofs.lemmas.List.{length-take-le, take_at, take-append-drop, drop_all, nil_from_length}
use Rattle.std.proofs.lemmas.Bool.{and_parts, and_from, lt-ltb, le-ltb, ltb-false, cases_order}
use Rattle.meaning.specs.Text.{pick, Tokens, none, all_written}
use Rattle.meaning.specs.Calls.{Call, put, cut, define, show, where_is, how_many, put_in}
use Rattle.meaning.specs.Promise.{readable, in_bytes, all_below}
use Rattle.meaning.proofs.Picks.{pick_true, pick_false}
use Rattle.meaning.proofs.Below.{all_below_replicate}
use Rattle.wire.specs.Bytes.{two, four, call_bytes, Parsed, whole, broken, parsed, Reading, is_call, stops, two_at, four_at, exactly, to_the_end, with_tokens, reading_by, reading}
use Rattle.wire.specs.Laws.{ReadBack, OnlyRead, Begins, Stopped, StopsRight}
use Rattle.meaning.proofs.Below.{all_below_parts, all_below_both}
use Rattle.wire.proofs.Parses.{parsed_left, parsed_all}
use Rattle.wire.proofs.Courses.{parsed_whole, leaving, parsed_left_leaving, Begun, Reach, parsed_reach, all_below_all_written}
use Rattle.wire.proofs.Fields.{two_at_two, four_at_four, drop_two, drop_four, two_at_below, four_at_below}

-- the two forms of calls
pub with_tokens_more :
    (make : ℕ → Tokens → Call) (a b : ℕ) (bs : List ℕ) → with_tokens make (a ∷ (b ∷ bs)) ≡ to_the_end (make (a * 256 + b)) 3 bs (parsed bs)
with_tokens_more make a b bs = pick_false _ _ _ (le-ltb (suc (suc (length bs))) 2 (omega arith))

with_tokens_of : (make : ℕ → Tokens → Call) (a b : ℕ) (ts : Tokens) → with_tokens make (a ∷ (b ∷ all_written ts)) ≡ is_call (make (a * 256 + b) ts)
with_tokens_of make a b ts = with_tokens_more make a b (all_written ts) ∙ ap (to_the_end (make (a * 256 + b)) 3 (all_written ts)) (parsed_all ts)

with_tokens_written : (make : ℕ → Tokens → Call) (k : ℕ) (ts : Tokens) → with_tokens make (two k ++ all_written ts) ≡ is_call (make k ts)
with_tokens_written make k ts = with_tokens_of make (k / 256) (k % 256) ts ∙ ap (λ n. is_call (make n ts)) (two_at_two k [])

pub exactly_of : (m : ℕ) (bs : List ℕ) (c : Call) → length bs ≡ m → exactly m bs c ≡ is_call c
exactly_of m bs c e = pick_false _ _ _ (le-ltb (length bs) m (omega arith)) ∙ pick_false _ _ _ (le-ltb m (length bs) (omega arith))

pub exactly_shorter : (m : ℕ) (bs : List ℕ) (c : Call) → length bs < m → exactly m bs c ≡ stops (1 + length bs)
exactly_shorter m bs c h = pick_true _ _ _ (lt-ltb (length bs) m h)

pub exactly_longer : (m : ℕ) (bs : List ℕ) (c : Call) → m < length bs → exactly m bs c ≡ stops (1 + m)
exactly_longer m bs c h = pick_false _ _ _ (le-ltb (length bs) m (omega arith)) ∙ pick_true _ _ _ (lt-ltb m (length bs) h)

-- every call's form is read as that call, though its numbers be too large for bytes
pub reading_call_bytes : (c : Call) → reading (call_bytes c) ≡ is_call c
unfolding call_bytes reading reading_by
reading_call_bytes (put k ts) = with_tokens_written put k ts
reading_call_bytes (cut k) = ap (λ n. is_call (cut n)) (two_at_two k [])
reading_call_bytes (define k ts) = with_tokens_written define k ts
reading_call_bytes (show k r n) = rw (four_at_four k [], two_at_two r [], two_at_two n []) refl
reading_call_bytes (where_is q) = ap (λ n. is_call (where_is n)) (two_at_two q [])
reading_call_bytes how_many = refl
reading_call_bytes (put_in k ts) = with_tokens_written put_in k ts

pub read_back : ReadBack
read_back c h = reading_call_bytes c

-- what is read as a call was no stop
pub stops_no_call : (n : ℕ) (c : Call) → stops n ≡ is_call c → ⊥
stops_no_call n c e = cc

same_stops : (m n : ℕ) → stops m ≡ stops n → m ≡ n
same_stops m n e = cc

picked_call : (b : Bool) (n : ℕ) (r : Reading) (c : Call) → pick b (stops n) r ≡ is_call c → (b ≡ false) × (r ≡ is_call c)
picked_call true n r c e = absurd (stops_no_call n c e)
picked_call false n r c e = (refl, e)

to_the_end_call :
    (make : Tokens → Call) (at : ℕ) (bs : List ℕ) (p : Parsed) (c : Call) → to_the_end make at bs p ≡ is_call c → (ts : Tokens) × (p ≡ whole ts []) × (make ts ≡ c)
to_the_end_call make at bs (whole ts []) c e = (ts, refl, cc)
to_the_end_call make at bs (whole ts (x ∷ left)) c e = absurd (stops_no_call _ c e)
to_the_end_call make at bs (broken ts left) c e = absurd (stops_no_call _ c e)

exactly_call : (m : ℕ) (bs : List ℕ) (c d : Call) → exactly m bs c ≡ is_call d → (length bs ≡ m) × (c ≡ d)
exactly_call m bs c d e =
    let enough = picked_call (ltb (length bs) m) (1 + length bs) (pick (ltb m (length bs)) (stops (1 + m)) (is_call c)) d e in
    let no_more = picked_call (ltb m (length bs)) (1 + m) (is_call c) d enough.1 in
    let same : is_call c ≡ is_call d = no_more.1 in
    (omega (arith, ltb-false (length bs) m enough.0, ltb-false m (length bs) no_more.0), cc)

with_tokens_call :
    (make : ℕ → Tokens → Call) (bs : List ℕ) (c : Call) → all_below 256 bs ≡ true → with_tokens make bs ≡ is_call c →
    (k : ℕ) × (ts : Tokens) × (make k ts ≡ c) × (bs ≡ two k ++ all_written ts) × ((ltb k 65536 && in_bytes ts) ≡ true)
with_tokens_call make bs c t e =
    let long = picked_call (ltb (length bs) 2) _ _ c e in
    let ended = to_the_end_call (make (two_at bs 0)) 3 (drop 2 bs) (parsed (drop 2 bs)) c long.1 in
    let k : ℕ = two_at bs 0 in
    let ts : Tokens = ended.0 in
    let written : drop 2 bs ≡ all_written ts = (parsed_whole (drop 2 bs) ts [] ended.1).0 ∙ append-nil (all_written ts) in
    let form : bs ≡ two k ++ all_written ts = drop_two bs 0 t (ltb-false (length bs) 2 long.0) ∙ ap (λ cs. two k ++ cs) written in
    let below : all_below 256 (all_written ts) ≡ true = (all_below_parts 256 (two k) (all_written ts) (ap (all_below 256) (sym form) ∙ t)).1 in
    (k, ts, ended.2, form, and_from (ltb k 65536) (in_bytes ts) (lt-ltb k 65536 (two_at_below bs 0 t)) (sym (all_below_all_written ts) ∙ below))

-- fields to the end
two_to_the_end : (bs : List ℕ) (i : ℕ) → all_below 256 bs ≡ true → length bs ≡ i + 2 → drop i bs ≡ two (two_at bs i)
two_to_the_end bs i t e = drop_two bs i t (omega arith) ∙ ap (λ cs. two (two_at bs i) ++ cs) (drop_all (i + 2) bs (omega arith)) ∙ append-nil (two (two_at bs i))

show_fields : (bs : List ℕ) → all_below 256 bs ≡ true → length bs ≡ 8 → bs ≡ four (four_at bs 0) ++ (two (two_at bs 4) ++ two (two_at bs 6))
show_fields bs t e =
    drop_four bs 0 t (omega arith) ∙ ap (λ cs. four (four_at bs 0) ++ cs) (drop_two bs 4 t (omega arith) ∙ ap (λ cs. two (two_at bs 4) ++ cs) (two_to_the_end bs 6 t e))

two_fits : (bs : List ℕ) (i : ℕ) → all_below 256 bs ≡ true → ltb (two_at bs i) 65536 ≡ true
two_fits bs i t = lt-ltb (two_at bs i) 65536 (two_at_below bs i t)

abbrev FormOf : List ℕ → Call → Type 0
FormOf bs c = (bs ≡ call_bytes c) × (readable c ≡ true)

only_read_by : (x : ℕ) (bs : List ℕ) (c : Call) → all_below 256 bs ≡ true → reading_by x bs ≡ is_call c → FormOf (x ∷ bs) c
unfolding call_bytes reading_by readable
only_read_by zero bs c t e =
    let f = with_tokens_call put bs c t e in
    subst (FormOf (0 ∷ bs)) f.2 (ap (λ cs. 0 ∷ cs) f.3, f.4)
only_read_by (suc zero) bs c t e =
    let f = exactly_call 2 bs (cut (two_at bs 0)) c e in
    subst (FormOf (1 ∷ bs)) f.1 (ap (λ cs. 1 ∷ cs) (two_to_the_end bs 0 t f.0), two_fits bs 0 t)
only_read_by (suc (suc zero)) bs c t e =
    let f = with_tokens_call define bs c t e in
    subst (FormOf (2 ∷ bs)) f.2 (ap (λ cs. 2 ∷ cs) f.3, f.4)
only_read_by (suc (suc (suc zero))) bs c t e =
    let f = exactly_call 8 bs (show (four_at bs 0) (two_at bs 4) (two_at bs 6)) c e in
    let page_fits : ltb (four_at bs 0) 4294967296 ≡ true = lt-ltb (four_at bs 0) 4294967296 (four_at_below bs 0 t) in
    subst (FormOf (3 ∷ bs)) f.1 (ap (λ cs. 3 ∷ cs) (show_fields bs t f.0), and_from _ _ (and_from _ _ page_fits (two_fits bs 4 t)) (two_fits bs 6 t))
only_read_by (suc (suc (suc (suc zero)))) bs c t e =
    let f = exactly_call 2 bs (where_is (two_at bs 0)) c e in
    subst (FormOf (4 ∷ bs)) f.1 (ap (λ cs. 4 ∷ cs) (two_to_the_end bs 0 t f.0), two_fits bs 0 t)
only_read_by (suc (suc (suc (suc (suc zero))))) bs c t e =
    let f = exactly_call 0 bs how_many c e in
    subst (FormOf (5 ∷ bs)) f.1 (ap (λ cs. 5 ∷ cs) (nil_from_length bs f.0), refl)
only_read_by (suc (suc (suc (suc (suc (suc zero)))))) bs c t e =
    let f = with_tokens_call put_in bs c t e in
    subst (FormOf (6 ∷ bs)) f.2 (ap (λ cs. 6 ∷ cs) f.3, f.4)
only_read_by (suc (suc (suc (suc (suc (suc (suc k))))))) bs c t e = absurd (stops_no_call _ c e)

pub only_read : OnlyRead
unfolding reading all_below
only_read [] c t e = absurd (stops_no_call _ c e)
only_read (x ∷ bs) c t e = only_read_by x bs c (and_parts (ltb x 256) (all_below 256 bs) t).1 e

-- what bytes that are read as a call begin with, a call's form begins with
begins_from_reading : (bs rest : List ℕ) (c : Call) → all_below 256 (bs ++ rest) ≡ true → reading (bs ++ rest) ≡ is_call c → Begins bs
begins_from_reading bs rest c t e = let f = only_read (bs ++ rest) c t e in (c, rest, f.1, sym f.0)

take_and_next : (start l : List ℕ) (x : ℕ) → take (suc (length start)) (start ++ (x ∷ l)) ≡ start ++ (x ∷ [])
take_and_next [] l x = refl
take_and_next (y ∷ start) l x = ap (λ bs. y ∷ bs) (take_and_next start l x)

-- reading stops rightly behind what begins a call's form, if it looks no further than the next byte
no_further_behind :
    (start left : List ℕ) → ((x : ℕ) (l rest : List ℕ) → left ≡ x ∷ l → reading (start ++ (x ∷ rest)) ≡ stops (length start)) →
    (length start ≡ length (start ++ left)) ⊎ (Begins (take (suc (length start)) (start ++ left)) → ⊥)
no_further_behind start [] local = inl (ap length (sym (append-nil start)))
no_further_behind start (x ∷ l) local =
    inr (λ (c, rest, _, form).
    let begun : start ++ (x ∷ rest) ≡ call_bytes c = sym (append_assoc start (x ∷ []) rest) ∙ ap (λ bs. bs ++ rest) (sym (take_and_next start l x)) ∙ sym form in
    stops_no_call (length start) c (sym (local x l rest refl) ∙ ap reading begun ∙ reading_call_bytes c))

stopped_behind :
    (bs start left : List ℕ) (n : ℕ) → start ++ left ≡ bs → length start ≡ n → Begins start →
    ((x : ℕ) (l rest : List ℕ) → left ≡ x ∷ l → reading (start ++ (x ∷ rest)) ≡ stops (length start)) → Stopped bs n
stopped_behind bs start left n e q begins local =
    let stopped : Stopped (start ++ left) (length start) =
    record {
      within = omega (arith, length-append start left);
      begun = rw (take_at start left (length start) refl) begins;
      no_further = no_further_behind start left local;
    } in
    subst₂ Stopped e q stopped

stopped_at_end : (bs : List ℕ) (n : ℕ) → length bs ≡ n → Begins bs → Stopped bs n
stopped_at_end bs n q begins = stopped_behind bs bs [] n (append-nil bs) q begins (λ x l rest e. absurd (omega (arith, ap length e)))

-- a call with just so many bytes of numbers
module _ (x m : ℕ) (call : List ℕ → Call) (form : (bs : List ℕ) → reading (x ∷ bs) ≡ exactly m bs (call bs)) where
  -- zeros stand for bytes that are missing
  exactly_begins : (bs : List ℕ) → all_below 256 (x ∷ bs) ≡ true → length bs ≤ m → Begins (x ∷ bs)
  exactly_begins bs t h =
      let zeros : List ℕ = replicate (m - length bs) 0 in
      let filled : length (bs ++ zeros) ≡ m = length-append bs zeros ∙ rw length-replicate (omega arith) in
      begins_from_reading (x ∷ bs) zeros (call (bs ++ zeros)) (all_below_both 256 (x ∷ bs) zeros t (all_below_replicate 256 (m - length bs) 0 (omega arith)))
      (form (bs ++ zeros) ∙ exactly_of m (bs ++ zeros) (call (bs ++ zeros)) filled)

  exactly_stopped : (bs : List ℕ) (n : ℕ) → all_below 256 (x ∷ bs) ≡ true → exactly m bs (call bs) ≡ stops n → Stopped (x ∷ bs) n
  exactly_stopped bs n t e = by_length (cases_order (length bs) m)
    where
      by_length : (length bs ≡ m) ⊎ ((length bs < m) ⊎ (m < length bs)) → Stopped (x ∷ bs) n
      by_length (inl same) = absurd (stops_no_call n (call bs) (sym e ∙ exactly_of m bs (call bs) same))
      by_length (inr (inl fewer)) =
          let place : 1 + length bs ≡ n = same_stops _ n (sym (exactly_shorter m bs (call bs) fewer) ∙ e) in
          stopped_at_end (x ∷ bs) n (omega arith) (exactly_begins bs t (omega arith))
      by_length (inr (inr more)) =
          let place : 1 + m ≡ n = same_stops _ n (sym (exactly_longer m bs (call bs) more) ∙ e) in
          let size : length (take m bs) ≡ m = length-take-le m bs (omega arith) in
          let start : List ℕ = x ∷ take m bs in
          let split : start ++ drop m bs ≡ x ∷ bs = ap (λ cs. x ∷ cs) (take-append-drop m bs) in
          let begins : Begins start = exactly_begins (take m bs) (all_below_parts 256 start (drop m bs) (ap (all_below 256) split ∙ t)).0 (omega arith) in
          stopped_behind (x ∷ bs) start (drop m bs) n split (omega arith) begins
          (λ y l rest _.
          let cs : List ℕ = take m bs ++ (y ∷ rest) in
          form cs ∙ exactly_longer m cs (call cs) (omega (arith, length-append (take m bs) (y ∷ rest))) ∙ ap stops (omega arith))

-- where tokens to the end cease
to_the_end_stops :
    (make : Tokens → Call) (at : ℕ) (bs : List ℕ) (p : Parsed) (n : ℕ) → to_the_end make at bs p ≡ stops n → n ≡ at + (length bs - length (parsed_left p))
to_the_end_stops make at bs (whole ts []) n e = absurd (stops_no_call n (make ts) (sym e))
to_the_end_stops make at bs (whole ts (x ∷ left)) n e = cc
to_the_end_stops make at bs (broken ts left) n e = cc

pub to_the_end_left :
    (make : Tokens → Call) (at : ℕ) (bs : List ℕ) (p : Parsed) (x : ℕ) (l : List ℕ) → parsed_left p ≡ x ∷ l → to_the_end make at bs p ≡ stops (at + (length bs - length (x ∷ l)))
to_the_end_left make at bs (whole ts []) x l e = absurd (omega (arith, ap length e))
to_the_end_left make at bs (whole ts (y ∷ left)) x l e = ap (λ cs. stops (at + (length bs - length cs))) e
to_the_end_left make at bs (broken ts left) x l e = ap (λ cs. stops (at + (length bs - length cs))) e

-- a call with tokens
module _ (x : ℕ) (make : ℕ → Tokens → Call) (form : (bs : List ℕ) → reading (x ∷ bs) ≡ with_tokens make bs) where
  with_tokens_begins : (a b : ℕ) (bs : List ℕ) → all_below 256 (x ∷ (a ∷ (b ∷ bs))) ≡ true → Begun bs → Begins (x ∷ (a ∷ (b ∷ bs)))
  with_tokens_begins a b bs t begun =
      let start : List ℕ = x ∷ (a ∷ (b ∷ bs)) in
      begins_from_reading start begun.rest (make (a * 256 + b) begun.tokens) (all_below_both 256 start begun.rest t begun.rest_below)
      (form (a ∷ (b ∷ (bs ++ begun.rest))) ∙ ap (λ cs. with_tokens make (a ∷ (b ∷ cs))) (sym begun.form) ∙ with_tokens_of make a b begun.tokens)

  with_tokens_stopped : (bs : List ℕ) (n : ℕ) → all_below 256 (x ∷ bs) ≡ true → with_tokens make bs ≡ stops n → Stopped (x ∷ bs) n
  unfolding all_below
  with_tokens_stopped [] n t e =
      stopped_at_end (x ∷ []) n (same_stops 1 n e)
      (begins_from_reading (x ∷ []) (0 ∷ (0 ∷ [])) (make 0 none) t (form (0 ∷ (0 ∷ [])) ∙ with_tokens_of make 0 0 none))
  with_tokens_stopped (a ∷ []) n t e =
      stopped_at_end (x ∷ (a ∷ [])) n (same_stops 2 n e)
      (begins_from_reading (x ∷ (a ∷ [])) (0 ∷ []) (make (a * 256 + 0) none) t (form (a ∷ (0 ∷ [])) ∙ with_tokens_of make a 0 none))
  with_tokens_stopped (a ∷ (b ∷ bs)) n t e =
      let r : Reach bs (parsed bs) = parsed_reach bs (parsed bs) refl in
      let left : List ℕ = parsed_left (parsed bs) in
      let start : List ℕ = x ∷ (a ∷ (b ∷ r.consumed)) in
      let split : start ++ left ≡ x ∷ (a ∷ (b ∷ bs)) = ap (λ cs. x ∷ (a ∷ (b ∷ cs))) (sym r.joined) in
      let below : all_below 256 start ≡ true = (all_below_parts 256 start left (ap (all_below 256) split ∙ t)).0 in
      let make' : Tokens → Call = make (a * 256 + b) in
      let place : n ≡ 3 + (length bs - length left) = to_the_end_stops make' 3 bs (parsed bs) n (sym (with_tokens_more make a b bs) ∙ e) in
      stopped_behind (x ∷ (a ∷ (b ∷ bs))) start left n split (omega (arith, ap length split, length-append start left)) (with_tokens_begins a b r.consumed below r.begun)
      (λ y l rest next.
      let cs : List ℕ = r.consumed ++ (y ∷ rest) in
      form (a ∷ (b ∷ cs)) ∙ with_tokens_more make a b cs ∙ ap (to_the_end make' 3 cs) (r.no_further y l rest next)
      ∙ to_the_end_left make' 3 cs (leaving (y ∷ rest) (parsed bs)) y rest (parsed_left_leaving (y ∷ rest) (parsed bs))
      ∙ ap stops (omega (arith, length-append r.consumed (y ∷ rest))))

begins_none : Begins []
unfolding call_bytes readable
begins_none = (how_many, 5 ∷ [], refl, refl)

stopped_by : (x : ℕ) (bs : List ℕ) (n : ℕ) → all_below 256 (x ∷ bs) ≡ true → reading_by x bs ≡ stops n → Stopped (x ∷ bs) n
unfolding reading reading_by
stopped_by zero bs n t e = with_tokens_stopped 0 put (λ _. refl) bs n t e
stopped_by (suc zero) bs n t e = exactly_stopped 1 2 (λ cs. cut (two_at cs 0)) (λ _. refl) bs n t e
stopped_by (suc (suc zero)) bs n t e = with_tokens_stopped 2 define (λ _. refl) bs n t e
stopped_by (suc (suc (suc zero))) bs n t e = exactly_stopped 3 8 (λ cs. show (four_at cs 0) (two_at cs 4) (two_at cs 6)) (λ _. refl) bs n t e
stopped_by (suc (suc (suc (suc zero)))) bs n t e = exactly_stopped 4 2 (λ cs. where_is (two_at cs 0)) (λ _. refl) bs n t e
stopped_by (suc (suc (suc (suc (suc zero))))) bs n t e = exactly_stopped 5 0 (λ _. how_many) (λ _. refl) bs n t e
stopped_by (suc (suc (suc (suc (suc (suc zero)))))) bs n t e = with_tokens_stopped 6 put_in (λ _. refl) bs n t e
stopped_by (suc (suc (suc (suc (suc (suc (suc k))))))) bs n t e =
    let x : ℕ = suc (suc (suc (suc (suc (suc (suc k)))))) in
    stopped_behind (x ∷ bs) [] (x ∷ bs) n refl (same_stops 0 n e) begins_none (λ y l rest d. let q : y ≡ x = cc in rw q refl)

pub stops_right : StopsRight
unfolding reading
stops_right [] n t e = stopped_at_end [] n (same_stops 0 n e) begins_none
stops_right (x ∷ bs) n t e = stopped_by x bs n t e
