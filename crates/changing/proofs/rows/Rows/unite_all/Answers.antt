use Rattle.std.proofs.Common.{arith}
use Rattle.bits.specs.Members.{left}
use Rattle.bits.specs.Sets.{holds}
use Rattle.model.proofs.Tests.{from_true}
use Rattle.changing.proofs.United.{united_more, united_all}
use Rattle.changing.specs.Rows.{in_rows}
use Rattle.changing.proofs.rows.Rows.unite_all.Goals as goal

pub loop-w-preserved : goal.loop-w-preserved
loop-w-preserved c =
    united_more c.args.into (holds c.args.set) (in_rows c.args.self.now) (in_rows c.loop-w.self) (in_rows c.unite.new.self)
    (holds (left c.loop-w.w-iterator)) (holds (left c.next.new.self)) c.in-Some.w (omega arith) c.requires
    (from_true (holds (left c.loop-w.w-iterator) c.in-Some.w) c.in-Some.ensures.steps.0) c.in-Some.ensures.steps.2 c.unite.ensures c.loop-w.invariant

pub returns : goal.returns
returns c =
    united_all c.args.into (holds c.args.set) (in_rows c.args.self.now) (in_rows c.loop-w.self) (holds (left c.loop-w.w-iterator))
    c.in-None.ensures.steps.0 c.loop-w.invariant
