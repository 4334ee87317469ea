use Rattle.std.proofs.Common.{◌∙◌, length-set, arith}
use Rattle.bits.proofs.Cell.{gained_more}
use Rattle.bits.proofs.rows.unite.Goals as goal

pub loop-i-preserved : goal.loop-i-preserved
loop-i-preserved c = (length-set c.loop-i.row c.loop-i.i _ ∙ c.loop-i.invariant.0, gained_more c.args.row.now c.args.words.now c.loop-i.row c.loop-i.i (omega arith) c.loop-i.invariant.1)
