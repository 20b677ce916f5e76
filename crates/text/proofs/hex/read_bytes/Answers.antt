use Rattle.std.proofs.Common.{vec_items, ap, ◌∙◌, inr}
use Rattle.std.proofs.lemmas.Result.{err_from_is_err_and}
use Rattle.notation.specs.Steps.{in_front}
use Rattle.text.specs.Calls.{hex_line}
use Rattle.text.specs.Words.{words}
use Rattle.text.proofs.Hexes.{hex_more, hex_fault, hex_all}
use Rattle.text.proofs.hex.read_bytes.Goals as goal

pub returns-in_err-hex_byte : goal.returns-in_err-hex_byte
returns-in_err-hex_byte c =
    let p = err_from_is_err_and c.from_residual.result c.from_residual.ensures.1 in
    rw (p.1, p.2)
    (inr (hex_fault _ (vec_items c.loop-word.bytes) _ _ _ _ c.loop-word.invariant c.in-Some.ensures.steps c.in_err-hex_byte.ensures))

pub loop-word-preserved : goal.loop-word-preserved
loop-word-preserved c =
    ap (λ bs. in_front bs (hex_line (words c.next.new.self.0.now))) c.in_ok-push.ensures.items
    ∙ hex_more _ (vec_items c.loop-word.bytes) _ _ _ _ c.loop-word.invariant c.in-Some.ensures.steps c.in_ok-hex_byte.ensures

pub returns : goal.returns
returns c = hex_all _ (vec_items c.loop-word.bytes) _ c.loop-word.invariant c.in-None.ensures.steps.0
