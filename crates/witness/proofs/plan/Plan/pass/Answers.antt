use Rattle.model.specs.Exact.{taking_to}
use Rattle.witness.specs.Plans.{given}
use Rattle.witness.proofs.Crossing.{grows_to}
use Rattle.witness.proofs.Going.{stops}
use Rattle.witness.proofs.plan.Plan.pass.Goals as goal

pub returns-in_err-give : goal.returns-in_err-give
returns-in_err-give c =
    let a = c.args in
    record {
      goes = stops (λ b. given b a.p a.u a.v a.held.right a.held.to) (λ b. taking_to b a.q a.v a.held.right a.held.to) _ _ _
          (λ b v w. grows_to b v w a.q a.v a.held.right a.held.to)
          _ c.in_err-give.ensures.goes c.from_residual.ensures.1;
    }
