use Rattle.model.specs.Exact.{taking_unless_held}
use Rattle.witness.specs.Plans.{given}
use Rattle.witness.proofs.Along.{grows_held}
use Rattle.witness.proofs.Going.{goes_on, stops}
use Rattle.witness.proofs.plan.Plan.leave_at.Goals as goal

pub returns-in_err-give : goal.returns-in_err-give
returns-in_err-give c =
    let a = c.args in
    record {
      goes = stops (λ b. given b a.p a.u a.c a.held.right a.held.to) (λ b. taking_unless_held a.q a.c a.held.right a.held.to) _ _ _
          (λ b v w. grows_held v w a.q a.c a.held.right a.held.to)
          _ c.in_err-give.ensures.goes c.from_residual.ensures.1;
    }

pub returns : goal.returns
returns c =
    let a = c.args in
    record {
      goes = goes_on (λ b. given b a.p a.u a.c a.held.right a.held.to) (λ b. taking_unless_held a.q a.c a.held.right a.held.to) _ _ _
          c.in_ok-give.ensures.goes c.take_unless_held.ensures.goes;
    }
