-- What the code gives, where memory may fail.
use Rattle.std.proofs.Common.{◌≡◌, ℕ, List, Ok, Err, Result, Vec, sym, ap, ◌∙◌, inl}
use Rattle.std.specs.declared.alloc.Global.{Global}
use Rattle.text.specs.declared.fault.Fault.{Fault}
use Rattle.text.specs.Calls.{Made, Gives}

pub gives_made : (said : Result (List ℕ) Fault) (bs : List ℕ) (r : Result (Vec ℕ Global) Fault) → said ≡ Ok bs → Made bs r → Gives said r
gives_made said bs (Ok v) e made = e ∙ ap (λ cs. Ok cs) (sym made)
gives_made said bs (Err x) e made = inl made
