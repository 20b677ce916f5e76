-- In slices of any length, the book that the machine has stands in front, and what lies behind it stays.
use Rattle.std.proofs.Common.{◌≡◌, ℕ, ◌+◌, ◌*◌, Bool, true, false, leb, List, [], ◌∷◌, ◌++◌, length, take, drop, is_ok, Ok, Err, Result, sym, refl, ap, ◌∙◌, ap₂, arith}
use Rattle.std.proofs.lemmas.List.{append_assoc, length-append, take_at, drop_at}
use Rattle.std.proofs.lemmas.Bool.{and_parts, both_ways}
use Rattle.meaning.specs.Text.{pick, Tokens}
use Rattle.meaning.specs.Pages
use Rattle.meaning.specs.Calls
use Rattle.meaning.specs.Calls.{Call, answer, answers}
use Rattle.meaning.specs.Promise.{Memory, GoodLooks, GoodLimits, readable, all_readable}
use Rattle.meaning.proofs.Picks.{pick_true}
use Rattle.wire.specs.Bytes.{over, call_bytes, reading}
use Rattle.wire.specs.Stage.{stage_tokens, stage_calls}
use Rattle.wire.specs.declared.refusal.Refusal.{Refusal}
use Rattle.wire.specs.declared.refusal.Refusal.TheVariants.{BadOpening, ShortTokens, ShortRest}
use Rattle.wire.proofs.Readings.{read_back}
use Rattle.store.specs.Opened.{limits_of, looks_of, in_range, tokens_asked, kept_asked, words_asked, rest_asked, opened, rest_of}
use Rattle.store.specs.Kept.{is_open}
use Rattle.store.proofs.Within.{in_range_good}
use Rattle.machine.specs.Setter.{says, next}
use Rattle.machine.proofs.Memories.{memory, opened_memory, Tells, longer_tells}
use Rattle.machine.proofs.Fits.{plain, Fitting, fitting}
use Rattle.machine.proofs.OpenText.{length_tokens, length_kept, length_words, told_open}
use Rattle.machine.proofs.Steps.{Holds, Step}
use Rattle.machine.proofs.ByCall.{step}
use Rattle.machine.proofs.Promises.{holds_nothing}
use Rattle.session.specs.Answering.{limits_in, memory_in, reply, reply_to, left_to}
use Rattle.session.specs.Whole.{replies, as_bytes, SessionRight}
use Rattle.session.proofs.Cuts.{over_append}

same_memory : (m n : Memory) → m.tokens ≡ n.tokens → m.words ≡ n.words → m.kept ≡ n.kept → m ≡ n
same_memory m n e f h =
    ap (λ x. record { tokens = x; words = m.words; kept = m.kept }) e
    ∙ (ap (λ x. record { tokens = n.tokens; words = x; kept = m.kept }) f ∙ ap (λ x. record { tokens = n.tokens; words = n.words; kept = x }) h)

module _ (l : Calls.Limits) (g : Pages.Looks) (good : GoodLooks g) (small : GoodLimits l) (tokens : l.tokens_can ≡ stage_tokens) (calls : l.calls_can ≡ stage_calls) (a b : List ℕ) where
  abbrev tokens_with : List Tokens → List ℕ
  tokens_with ps = (memory l g ps).tokens ++ a

  abbrev rest_with : List Tokens → List ℕ
  rest_with ps = rest_of (memory l g ps) ++ b

  module _ (ps : List Tokens) (h : Holds l ps) where
    few : Fitting l ps
    few = fitting l ps h.fit

    tells : Tells l g ps (rest_with ps)
    tells = longer_tells l g ps b

    open_with : is_open (length (tokens_with ps)) (rest_with ps) ≡ true
    open_with =
        told_open l g ps few (length (tokens_with ps)) (rest_with ps) tells
        (omega (arith, length-append (memory l g ps).tokens a, length_tokens l g ps few))
        (omega (arith, length-append (rest_of (memory l g ps)) b, length-append (memory l g ps).kept (memory l g ps).words, length_kept l g ps few, length_words l g ps few))
        good small

    front : rest_with ps ≡ (memory l g ps).kept ++ ((memory l g ps).words ++ b)
    front = append_assoc (memory l g ps).kept (memory l g ps).words b

    kept_same : kept_asked (limits_in (rest_with ps)) ≡ kept_asked l
    kept_same = ap (λ n. 64 + 4 * n) tells.most_paragraphs

    words_same : words_asked (limits_in (rest_with ps)) ≡ words_asked l
    words_same = omega (arith, tells.most_paragraphs, tells.most_tokens, tells.most_definitions, tells.most_bulk)

    memory_with : memory_in (tokens_with ps) (rest_with ps) ≡ memory l g ps
    memory_with =
        same_memory (memory_in (tokens_with ps) (rest_with ps)) (memory l g ps)
        (ap (λ n. take (4 * n) (tokens_with ps)) tells.most_tokens ∙ take_at (memory l g ps).tokens a (tokens_asked l) (length_tokens l g ps few))
        (ap₂ (λ n k. take n (drop k (rest_with ps))) words_same kept_same
        ∙ (ap (λ xs. take (words_asked l) (drop (kept_asked l) xs)) front
        ∙ (ap (take (words_asked l)) (drop_at (memory l g ps).kept ((memory l g ps).words ++ b) (kept_asked l) (length_kept l g ps few))
        ∙ take_at (memory l g ps).words b (words_asked l) (length_words l g ps few))))
        (ap₂ take kept_same front ∙ take_at (memory l g ps).kept ((memory l g ps).words ++ b) (kept_asked l) (length_kept l g ps few))

    module _ (c : Call) (e : readable c ≡ true) where
      gone_on : Step l g ps c
      gone_on = step l g good small tokens calls ps c h

      few_then : Fitting l gone_on.afterwards
      few_then = fitting l gone_on.afterwards gone_on.holds.fit

      reply_with : reply (tokens_with ps) (rest_with ps) (call_bytes c) ≡ answer l g (plain ps) c
      reply_with =
          ap (reply_to (tokens_with ps) (rest_with ps)) (read_back c e)
          ∙ (pick_true (is_open (length (tokens_with ps)) (rest_with ps)) _ _ open_with ∙ (ap (λ m. says m c) memory_with ∙ gone_on.answers_so))

      left_with : (part : Memory → List ℕ) (xs : List ℕ) → left_to (tokens_with ps) (rest_with ps) (reading (call_bytes c)) part xs ≡ over (part (memory l g gone_on.afterwards)) xs
      left_with part xs =
          ap (λ r. left_to (tokens_with ps) (rest_with ps) r part xs) (read_back c e)
          ∙ (pick_true (is_open (length (tokens_with ps)) (rest_with ps)) _ xs open_with ∙ ap (λ m. over (part m) xs) (ap (λ m. next m c) memory_with ∙ gone_on.leaves))

      tokens_left : left_to (tokens_with ps) (rest_with ps) (reading (call_bytes c)) (λ m. m.tokens) (tokens_with ps) ≡ tokens_with gone_on.afterwards
      tokens_left =
          left_with (λ m. m.tokens) (tokens_with ps)
          ∙ over_append (memory l g gone_on.afterwards).tokens (memory l g ps).tokens a (length_tokens l g gone_on.afterwards few_then ∙ sym (length_tokens l g ps few))

      rest_left : left_to (tokens_with ps) (rest_with ps) (reading (call_bytes c)) rest_of (rest_with ps) ≡ rest_with gone_on.afterwards
      rest_left =
          left_with rest_of (rest_with ps)
          ∙ over_append (rest_of (memory l g gone_on.afterwards)) (rest_of (memory l g ps)) b (rest_long gone_on.afterwards few_then ∙ sym (rest_long ps few))
        where
          rest_long : (qs : List Tokens) → Fitting l qs → length (rest_of (memory l g qs)) ≡ kept_asked l + words_asked l
          rest_long qs f = length-append (memory l g qs).kept (memory l g qs).words ∙ ap₂ ◌+◌ (length_kept l g qs f) (length_words l g qs f)

  replies_with : (ps : List Tokens) (cs : List Call) → Holds l ps → all_readable cs ≡ true → replies (tokens_with ps) (rest_with ps) (as_bytes cs) ≡ answers l g (plain ps) cs
  unfolding replies as_bytes answers all_readable
  replies_with ps [] h e = refl
  replies_with ps (c ∷ cs) h e =
      let r = and_parts (readable c) (all_readable cs) e in
      let s : Step l g ps c = gone_on ps h c r.0 in
      ap₂ ◌∷◌ (reply_with ps h c r.0)
      (ap₂ (λ x y. replies x y (as_bytes cs)) (tokens_left ps h c r.0) (rest_left ps h c r.0)
      ∙ (replies_with s.afterwards cs s.holds r.1 ∙ ap (λ t. answers l g t cs) (sym s.means)))

done_in_range : (x y z : Bool) → Ok tt ≡ pick {A = Result (Unit {0}) Refusal} x (pick y (pick z (Ok tt) (Err ShortRest)) (Err ShortTokens)) (Err BadOpening) → x ≡ true
done_in_range true y z h = refl
done_in_range false y z h = absurd (both_ways false refl (sym (ap is_ok h)))

pub session_right : SessionRight
session_right l g ts rs ts' rs' cs o e =
    let m : Memory = opened (limits_of l) (looks_of g) in
    let within = in_range_good l g (done_in_range (in_range l g) (leb (tokens_asked (limits_of l)) (length ts)) (leb (rest_asked (limits_of l)) (length rs)) o.value) in
    ap₂ (λ x y. replies x y (as_bytes cs))
    (o.tokens ∙ ap (λ n. n.tokens ++ drop (length m.tokens) ts) (opened_memory (limits_of l) (looks_of g)))
    (o.rest ∙ ap (λ n. rest_of n ++ drop (length (rest_of m)) rs) (opened_memory (limits_of l) (looks_of g)))
    ∙ replies_with (limits_of l) (looks_of g) within.1 within.0 refl refl (drop (length m.tokens) ts) (drop (length (rest_of m)) rs) [] cs (holds_nothing (limits_of l)) e
