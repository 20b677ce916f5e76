use Rattle.std.proofs.Common.{◌≡◌, ℕ, Ok, List, Option, Result, ◌≤◌, ◌++◌, length, take, drop, length-append, sym, ap, ◌∙◌, arith, rules}
use Rattle.std.proofs.lemmas.List.{length-take-le}
use Rattle.std.specs.Result.{result_ok}
use Rattle.meaning.proofs.Picks.{some_picked}
use Rattle.wire.specs.declared.refusal.Refusal.{Refusal}
use Rattle.store.specs.Opened.{in_range, limits_of, looks_of, tokens_asked, rest_asked, asking}
use Rattle.store.specs.declared.opening.Asked.{Asked}
use Rattle.store.specs.declared.opening.Opening.{Opening}
use Rattle.store.proofs.Fresh.{length_header, fresh_tokens, fresh_rest}
use Rattle.store.proofs.opening.open.Goals as goal

module _ (p : Opening) {a : Asked} {o : Option Asked} {r : Result Asked Refusal} (of : o ≡ asking p.limits p.looks) (ok : o ≡ result_ok r) (was : r ≡ Ok a) where
  -- what was let through is asked for
  asked_for : a ≡ record { tokens = tokens_asked (limits_of p.limits); rest = rest_asked (limits_of p.limits) }
  asked_for = (some_picked (in_range p.limits p.looks) a _ (sym (ok ∙ ap result_ok was) ∙ of)).1

  -- and has room for the header, also when it is cleared
  room : (zeros numbers : List ℕ) → a.rest ≤ length numbers → length zeros ≡ length (take a.rest numbers) → 64 ≤ length (zeros ++ drop a.rest numbers)
  room zeros numbers enough long = omega (arith, ap (λ x. x.rest) asked_for, length-append zeros (drop a.rest numbers), length-take-le a.rest numbers enough)

pub slice_bounds-copy_from_slice-end-2 : goal.slice_bounds-copy_from_slice-end-2
slice_bounds-copy_from_slice-end-2 c =
    let fits = room c.args.opening.now c.of.ensures c.ok_or.ensures.ok_part c.in_ok-asked.was c.fill-2.new.self c.args.rest.now (omega arith) c.fill-2.ensures.len in
    search rules

pub copy_from_slice-requires : goal.copy_from_slice-requires
copy_from_slice-requires c =
    length-take-le 64 _ (room c.args.opening.now c.of.ensures c.ok_or.ensures.ok_part c.in_ok-asked.was c.fill-2.new.self c.args.rest.now (omega arith) c.fill-2.ensures.len)
    ∙ sym (ap length c.header_of.ensures ∙ length_header (limits_of c.args.opening.now.limits) (looks_of c.args.opening.now.looks))

pub returns : goal.returns
returns c =
    let l = limits_of c.args.opening.now.limits in
    let g = looks_of c.args.opening.now.looks in
    let asked = asked_for c.args.opening.now c.of.ensures c.ok_or.ensures.ok_part c.in_ok-asked.was in
    record {
      value = search rules;
      tokens = fresh_tokens c.in_ok-asked.asked.tokens c.args.tokens.now c.fill.new.self (omega arith) (c.fill.ensures.after (λ y e. e)) l g (ap (λ a. a.tokens) asked);
      rest =
          fresh_rest c.in_ok-asked.asked.rest c.args.rest.now c.fill-2.new.self (omega arith) (c.fill-2.ensures.after (λ y e. e)) l g c.copy_from_slice.new.self
          (c.copy_from_slice.ensures.after ∙ c.header_of.ensures)
          (ap (λ a. a.rest) asked);
    }
