use Rattle.std.proofs.Common.{◌*◌}
use Rattle.bits.specs.Rows.{cell}
use Rattle.bits.proofs.Blocks.{Swapped}
use Rattle.bits.proofs.block.swap.Given as goal

abbrev pub invariant-loop-b : goal.invariant-loop-b
invariant-loop-b g l = Swapped g.row.J (64 * g.row.W) (cell l.initial.block g.row.W) (cell l.block g.row.W) l.b
