-- What is written of what is wrong with a text.
use Rattle.std.specs.Prelude.{ℕ, List, codes}
use Rattle.notation.specs.declared.fault.Fault.{Fault}
use Rattle.notation.specs.declared.fault.Fault.TheVariants.{NoToken, TooLarge, OpensNothing, ClosesNothing, Unclosed, NoMemory}

abbrev pub fault_text : Fault → List ℕ
fault_text NoToken = codes "a backslash begins no token"
fault_text TooLarge = codes "a token's number is too large"
fault_text OpensNothing = codes "a brace opens nothing"
fault_text ClosesNothing = codes "a brace closes nothing"
fault_text Unclosed = codes "a brace is not closed"
fault_text NoMemory = codes "there is no memory left"
