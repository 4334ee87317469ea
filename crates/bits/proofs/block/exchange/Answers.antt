use Rattle.std.proofs.Common.{arith}
use Rattle.bits.specs.Rows.{cell}
use Rattle.bits.proofs.Blocks.{exchange_word}
use Rattle.bits.proofs.block.exchange.Goals as goal

pub returns : goal.returns
returns g c =
    exchange_word g.row.J c.args.x c.args.i c.args.mask c.row_word-low.result c.row_word-high.result (cell c.args.block.now g.row.W) (cell c.row_put.new.rows g.row.W)
    (cell c.row_put-2.new.rows g.row.W) c.requires.1.1 (omega arith) c.row_word-low.ensures c.row_word-high.ensures c.row_put.ensures c.row_put-2.ensures
