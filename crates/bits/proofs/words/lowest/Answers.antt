use Rattle.std.proofs.Common.{arith}
use Rattle.bits.proofs.Scan.{clear_more, clear_all, first_at}
use Rattle.bits.proofs.words.lowest.Goals as goal

pub loop-i-preserved : goal.loop-i-preserved
loop-i-preserved c = clear_more c.args.words.now c.loop-i.i c.if-w-ne0.false c.loop-i.invariant

pub returns-then-w-ne0 : goal.returns-then-w-ne0
returns-then-w-ne0 c =
    let first = first_at c.args.words.now c.loop-i.i (omega arith) (omega arith) c.loop-i.invariant in
    (omega arith, first.here, first.none)

pub returns : goal.returns
returns c = clear_all c.args.words.now c.loop-i.i (omega arith) c.loop-i.invariant
