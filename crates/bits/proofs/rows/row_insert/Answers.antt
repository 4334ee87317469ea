use Rattle.bits.proofs.Cell.{cell_insert}
use Rattle.bits.proofs.rows.row_insert.Goals as goal

pub returns : goal.returns
returns c = cell_insert c.args.rows.now c.put.new.words c.args.w c.args.x c.args.k c.requires.1 c.put.ensures
