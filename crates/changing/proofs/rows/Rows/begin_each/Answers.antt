use Rattle.bits.specs.Members.{left}
use Rattle.bits.specs.Sets.{holds}
use Rattle.graph.specs.Graphs.{state}
use Rattle.changing.proofs.United.{begun_more}
use Rattle.changing.proofs.Walked.{walked_more, walked_outside}
use Rattle.changing.specs.Rows.{in_rows}
use Rattle.changing.proofs.rows.Rows.begin_each.Goals as goal

pub loop-v-preserved : goal.loop-v-preserved
loop-v-preserved c =
    walked_more _ _ _ _ _ c.loop-v.invariant (in_rows c.begin.new.self) (holds (left c.next.new.self)) c.in-Some.v c.in-Some.ensures.steps.0 c.in-Some.ensures.steps.2
    (begun_more (state c.args.graph.now) (holds c.args.set) (in_rows c.args.self.now) (in_rows c.loop-v.self) (in_rows c.begin.new.self) c.in-Some.v
    (walked_outside _ _ _ _ _ c.loop-v.invariant) c.begin.ensures)
