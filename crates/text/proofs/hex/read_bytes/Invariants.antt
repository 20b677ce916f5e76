use Rattle.std.proofs.Common.{◌≡◌, vec_items}
use Rattle.notation.specs.Steps.{in_front}
use Rattle.text.specs.Calls.{hex_line}
use Rattle.text.specs.Words.{words}
use Rattle.text.proofs.hex.read_bytes.Given as goal

-- what was read, in front of what is left, is what there was
abbrev pub invariant-loop-word : goal.invariant-loop-word
invariant-loop-word l = in_front (vec_items l.bytes) (hex_line (words l.word-iterator.0.now)) ≡ hex_line (words l.text)
