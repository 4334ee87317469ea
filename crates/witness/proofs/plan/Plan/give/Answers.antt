use Rattle.model.specs.Exact.{doing, granting, taking_to}
use Rattle.witness.proofs.Going.{grows_doing, stops}
use Rattle.witness.proofs.plan.Plan.give.Goals as goal

pub returns-in_err-take_to : goal.returns-in_err-take_to
returns-in_err-take_to c =
    let a = c.args in
    record {
      goes = stops (λ b. taking_to b a.p a.u 1 a.into) (λ b. doing (granting a.p a.into a.held.right a.held.to)) _ _ _ (λ b v w. grows_doing v w (granting a.p a.into a.held.right a.held.to))
          _ c.in_err-take_to.ensures.goes c.from_residual.ensures.1;
    }
