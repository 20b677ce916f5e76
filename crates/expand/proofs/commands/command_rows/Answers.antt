use Rattle.std.proofs.Common.{◌≡◌, ◌++◌, length, ◌∙◌, arith}
use Rattle.std.proofs.lemmas.List.{length-append, drop_at}
use Rattle.expand.proofs.commands.command_rows.Goals as goal

pub returns-clause-behind : goal.returns-clause-behind
returns-clause-behind c =
    let rows = c.all_levels.new.rows in
    let spare = c.all_levels.new.spare in
    let front = c.split_at_mut-front.ensures in
    let halves = c.split_at_mut-rows.ensures in
    let long : length (rows ++ spare) ≡ 2560 = omega (arith, length-append rows spare, c.all_levels.ensures.long, c.all_levels.ensures.spare, halves.front_len, halves.back_len, front.front_len) in
    drop_at (rows ++ spare) c.split_at_mut-front.result.1.now 2560 long ∙ front.back
