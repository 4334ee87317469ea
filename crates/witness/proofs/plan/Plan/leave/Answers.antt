use Rattle.model.specs.Exact.{creating, doing, left, taking_unless_held}
use Rattle.witness.specs.Plans.{given}
use Rattle.witness.proofs.Crossing.{grows_left}
use Rattle.witness.proofs.Going.{next_named, stops}
use Rattle.witness.proofs.plan.Plan.leave.Goals as goal

pub returns-in_err-create : goal.returns-in_err-create
returns-in_err-create c =
    let a = c.args in
    let new = c.size-new.result in
    record {
      goes = next_named a.self.now _ a.out.now _ _ (λ k b w. left b a.p a.q a.held.right a.held.to k w) new c.size-new.ensures.value
          (stops (λ b. doing (creating a.q)) (λ b w. taking_unless_held a.q new a.held.right a.held.to (given b a.p a.q new a.held.right a.held.to w))
          _ _ _
          (λ b v w. grows_left b v w a.p a.q new a.q a.held.right a.held.to) _ c.in_err-create.ensures.goes c.from_residual.ensures.1);
    }
