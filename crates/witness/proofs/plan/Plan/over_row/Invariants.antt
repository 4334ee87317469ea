use Rattle.std.proofs.Common.{ℕ, ◌<◌, List, drop}
use Rattle.model.specs.State.{State}
use Rattle.model.specs.Exact.{Work, over_row}
use Rattle.witness.specs.Plans.{At}
use Rattle.witness.proofs.Crossing.{Over}
use Rattle.witness.proofs.plan.Plan.over_row.Given as goal

abbrev pub invariant-loop-next : goal.invariant-loop-next
invariant-loop-next l =
    (l.at < 256) ×
    ((b : State) (w : Work) (was : List ℕ) → At b w l.initial.self was l.initial.out →
    Over b l.held.right l.held.to (over_row b l.p l.row l.held.right l.held.to w) l.self was l.out l.at (drop l.next-index l.row))
