use Rattle.std.proofs.Common.{arith}
use Rattle.bits.proofs.Cell.{added_more, added_all}
use Rattle.bits.proofs.rows.row_union.Goals as goal

pub loop-i-preserved : goal.loop-i-preserved
loop-i-preserved c =
    added_more c.args.rows.now c.args.w c.args.into c.args.from c.loop-i.rows c.loop-i.i (omega arith) (omega arith) c.loop-i.invariant

pub returns : goal.returns
returns c = added_all c.args.rows.now c.args.w c.args.into c.args.from c.loop-i.rows c.loop-i.i (omega arith) c.loop-i.invariant
