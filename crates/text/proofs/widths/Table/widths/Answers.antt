use Rattle.std.proofs.Common.{None, unwrap_or, rules}
use Rattle.text.proofs.Mapped.{mapped}
use Rattle.text.proofs.widths.Table.widths.Goals as goal

pub returns : goal.returns
returns c = mapped _ _ (λ width. unwrap_or width c.args.self.now.others) (λ x y q call. search rules) 95 None 0 c.map.ensures.items
