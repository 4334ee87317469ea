use Rattle.std.proofs.Common.{arith, rules}
use Rattle.bits.proofs.Over.{cell_cleared}
use Rattle.bits.proofs.rows.row_clear.Goals as goal

pub returns : goal.returns
returns c = cell_cleared c.args.rows.now c.fill.new.self c.args.w c.args.x _ c.requires (omega arith) (search rules)
