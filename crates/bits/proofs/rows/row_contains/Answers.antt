use Rattle.std.proofs.Common.{◌∙◌}
use Rattle.bits.proofs.Cell.{cell_at}
use Rattle.bits.proofs.rows.row_contains.Goals as goal

pub returns : goal.returns
returns c = c.has.ensures ∙ cell_at c.args.rows.now c.args.w c.args.x c.args.k c.requires.1
