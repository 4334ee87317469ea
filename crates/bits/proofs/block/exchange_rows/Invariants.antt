use Rattle.bits.specs.Rows.{cell}
use Rattle.bits.proofs.Blocks.{Exchanging}
use Rattle.bits.proofs.block.exchange_rows.Given as goal

abbrev pub invariant-loop-i : goal.invariant-loop-i
invariant-loop-i g l = Exchanging g.row.J l.x (cell l.initial.block g.row.W) (cell l.block g.row.W) l.i
