use Rattle.std.proofs.Common.{arith, length-set}
use Rattle.bits.specs.Members.{left}
use Rattle.bits.specs.Sets.{holds, in_row}
use Rattle.spans.proofs.Entered.{entered_more}
use Rattle.spans.proofs.turned.enter.Goals as goal

pub loop-y-preserved : goal.loop-y-preserved
unfolding in_row
loop-y-preserved c =
    let size = c.loop-y.invariant.0 in
    let turn = c.in-Some.ensures.steps in (
      simp length-set size,
      entered_more (in_row c.args.sets.now) (holds c.args.targets) c.args.x c.loop-y.sets (holds (left c.loop-y.y-iterator)) (holds (left c.next.new.self))
          c.in-Some.y c.from.result c.insert.new.self c.from.ensures (omega arith) turn.0 turn.2 c.insert.ensures c.loop-y.invariant.1,
    )
