use Rattle.std.proofs.Common.{◌≡◌, ℕ, ◌+◌, ◌<◌, ◌≤◌, length, refl, ap, arith}
use Rattle.layout.specs.Paragraphs.{line_row, line_bytes}
use Rattle.layout.proofs.Writing.{written_part, length_written}
use Rattle.layout.proofs.SetLines.{line_bytes_few}
use Rattle.layout.proofs.Taking.{passes, writes, takes_none, takes_done}
use Rattle.layout.proofs.rows.RowWriter.take_line.Goals as goal

pub returns-then-self-eq0 : goal.returns-then-self-eq0
returns-then-self-eq0 c = takes_done (takes_none c.args.self.now _) c.if-self-eq0.true

pub returns-then-self-gt0 : goal.returns-then-self-gt0
returns-then-self-gt0 c = passes c.args.self.now _ (line_row c.args.line.now.paragraph c.args.line.now.words) refl c.if-self-gt0.true refl refl refl refl

pub returns : goal.returns
returns c =
    let w = c.args.self.now in
    let p = c.args.line.now.paragraph in
    let line = c.args.line.now.words in
    let few = line_bytes_few p line c.args.line.now.within in
    let some : 0 < w.left = omega (arith, c.if-self-eq0.false) in
    let fits : w.end + length (line_bytes p line) ≤ length w.out.now = omega (arith, few, some, w.room) in
    let none : w.skip ≡ 0 = omega (arith, c.if-self-gt0.false) in
    writes w _ (line_row p line) refl none some fits (written_part w.end (line_bytes p line) w.out.now _ c.write.ensures.after) refl refl
    (ap (λ (n : ℕ). w.end + n) c.write.ensures.value)

pub invariant_of-self-2 : goal.invariant_of-self-2
invariant_of-self-2 c =
    let w = c.args.self.now in
    let p = c.args.line.now.paragraph in
    let line = c.args.line.now.words in
    let few = line_bytes_few p line c.args.line.now.within in
    let some : 0 < w.left = omega (arith, c.if-self-eq0.false) in
    let fits : w.end + length (line_bytes p line) ≤ length w.out.now = omega (arith, few, some, w.room) in
    let after = written_part w.end (line_bytes p line) w.out.now c.write.new.out c.write.ensures.after in
    record { room = omega (arith, ap length after, length_written w.end (line_bytes p line) w.out.now fits, c.write.ensures.value, few, some, w.room) }
