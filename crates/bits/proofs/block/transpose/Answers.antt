use Rattle.bits.specs.Rows.{cell}
use Rattle.bits.proofs.Transposed.{transposed}
use Rattle.bits.proofs.block.transpose.Goals as goal

pub returns : goal.returns
returns g c =
    transposed g.row.W (cell c.args.block.now g.row.W) _ _ _ _ _ (cell c.swap-6.new.block g.row.W) c.swap.ensures c.swap-2.ensures c.swap-3.ensures c.swap-4.ensures c.swap-5.ensures
    c.swap-6.ensures
