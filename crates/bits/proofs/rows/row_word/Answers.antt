use Rattle.bits.proofs.Cell.{cell_word}
use Rattle.bits.proofs.rows.row_word.Goals as goal

pub returns : goal.returns
returns c = λ j h. cell_word c.args.rows.now c.args.w c.args.x c.args.i j c.requires.1 h
