use Rattle.bits.proofs.Cell.{cell_put}
use Rattle.bits.proofs.rows.row_put.Goals as goal

pub returns : goal.returns
returns c = λ y k. cell_put c.args.rows.now c.args.w c.args.x c.args.i c.args.word y k c.requires.0 c.requires.1
