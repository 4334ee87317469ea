use Rattle.bits.specs.Rows.{cell}
use Rattle.bits.proofs.Blocks.{exchanging_more}
use Rattle.bits.proofs.block.exchange_rows.Goals as goal

pub loop-i-preserved : goal.loop-i-preserved
loop-i-preserved g c =
    exchanging_more g.row.J c.args.x c.args.mask (cell c.args.block.now g.row.W) (cell c.loop-i.block g.row.W) (cell c.exchange.new.block g.row.W) c.loop-i.i c.requires.1
    c.exchange.ensures c.loop-i.invariant
