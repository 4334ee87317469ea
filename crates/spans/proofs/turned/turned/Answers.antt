use Rattle.std.proofs.Common.{arith}
use Rattle.bits.specs.Sets.{in_row}
use Rattle.bits.proofs.Holds.{bare_row}
use Rattle.spans.proofs.Entered.{turning_none, turning_more}
use Rattle.spans.proofs.turned.turned.Goals as goal

pub loop-x-init : goal.loop-x-init
loop-x-init g c = turning_none (goal.F-post g c.args.row) _ (bare_row c.empty-sets.result c.empty-sets.ensures 256)

pub loop-x-preserved : goal.loop-x-preserved
loop-x-preserved g c =
    turning_more (goal.F-post g c.args.row) (in_row c.loop-x.sets) (in_row c.enter.new.sets) c.loop-x.x c.row.result c.row.ensures c.enter.ensures c.loop-x.invariant

pub returns-clause-rows : goal.returns-clause-rows
returns-clause-rows g c = λ x h. c.loop-x.invariant.1 x (omega arith)
