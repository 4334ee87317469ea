use Rattle.std.proofs.Common.{ℕ, ◌<◌, List, drop}
use Rattle.model.specs.State.{State}
use Rattle.model.specs.Exact.{Work, taking_along}
use Rattle.witness.specs.Plans.{At}
use Rattle.witness.proofs.Along.{Along}
use Rattle.witness.proofs.plan.Plan.take_along.Given as goal

abbrev pub invariant-path : goal.invariant-path
invariant-path l =
    (l.at < 256) ×
    ((b : State) (w : Work) (was : List ℕ) → At b w l.initial.self was l.initial.out →
    Along b l.p l.held.right l.held.to (taking_along l.p l.p l.path l.held.right l.held.to w) l.self was l.out l.at (drop l.next-index l.path))
