use Rattle.std.proofs.Common.{◌*◌}
use Rattle.bits.specs.Rows.{cell}
use Rattle.bits.proofs.Blocks.{Swapping}
use Rattle.bits.proofs.block.swap_strips.Given as goal

abbrev pub invariant-loop-i : goal.invariant-loop-i
invariant-loop-i g l = Swapping g.row.J (2 * g.row.J * l.b) (64 * g.row.W) (cell l.initial.block g.row.W) (cell l.block g.row.W) l.i
