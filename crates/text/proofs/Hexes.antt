-- A call in hexadecimal is read word by word: bytes that were read stand in front of what is left.
use Rattle.std.proofs.Common.{◌≡◌, ℕ, List, [], ◌∷◌, ◌++◌, Ok, Err, Result, sym, ap, ◌∙◌, append-nil}
use Rattle.notation.specs.Steps.{in_front}
use Rattle.notation.proofs.Thens.{in_front_both}
use Rattle.text.specs.declared.fault.Fault.{Fault}
use Rattle.text.specs.Calls.{hex_byte, hex_line}

module _ (all : Result (List ℕ) Fault) (bs : List ℕ) where
  pub hex_more : (ws rest : List (List ℕ)) (w : List ℕ) (b : ℕ) → in_front bs (hex_line ws) ≡ all → ws ≡ w ∷ rest → Ok b ≡ hex_byte w → in_front (bs ++ (b ∷ [])) (hex_line rest) ≡ all
  unfolding hex_line
  hex_more ws rest w b so e is = sym (in_front_both bs (b ∷ []) (hex_line rest)) ∙ (rw (e, ← is) at so)

  pub hex_fault : (ws rest : List (List ℕ)) (w : List ℕ) (x : Fault) → in_front bs (hex_line ws) ≡ all → ws ≡ w ∷ rest → Err x ≡ hex_byte w → all ≡ Err x
  unfolding hex_line
  hex_fault ws rest w x so e is = sym (rw (e, ← is) at so)

  pub hex_all : (ws : List (List ℕ)) → in_front bs (hex_line ws) ≡ all → ws ≡ [] → all ≡ Ok bs
  unfolding hex_line
  hex_all ws so e = sym (rw e at so) ∙ ap (λ cs. Ok cs) (append-nil bs)
