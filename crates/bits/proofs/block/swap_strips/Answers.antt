use Rattle.bits.specs.Rows.{cell}
use Rattle.bits.proofs.Blocks.{swapping_more}
use Rattle.bits.proofs.block.swap_strips.Goals as goal

pub loop-i-preserved : goal.loop-i-preserved
loop-i-preserved g c =
    swapping_more g.row.J c.args.b g.row.W c.args.mask (cell c.args.block.now g.row.W) (cell c.loop-i.block g.row.W) (cell c.exchange_rows.new.block g.row.W) c.loop-i.i c.requires.1.1
    c.loop-i-test.true c.exchange_rows.ensures c.loop-i.invariant
