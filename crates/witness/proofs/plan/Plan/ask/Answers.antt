use Rattle.model.specs.Exact.{asked, creating, doing, taking_unless_held}
use Rattle.witness.specs.Plans.{given}
use Rattle.witness.proofs.Crossing.{grows_given, grows_left}
use Rattle.witness.proofs.Going.{next_named, stops}
use Rattle.witness.proofs.plan.Plan.ask.Goals as goal

pub returns-in_err-create : goal.returns-in_err-create
returns-in_err-create c =
    let a = c.args in
    let new = c.size-new.result in
    record {
      goes = next_named a.self.now _ a.out.now _ _ (λ k b w. asked b a.p a.q a.held.right a.held.to a.u a.v k w) new c.size-new.ensures.value
          (stops (λ b. doing (creating a.q))
          (λ b w. taking_unless_held a.q new a.held.right a.held.to (given b a.p a.u new a.held.right a.held.to (given b a.q a.v a.u 1 new w)))
          _ _ _
          (λ b v w g. grows_left b v (given b a.q a.v a.u 1 new w) a.p a.u new a.q a.held.right a.held.to (grows_given b v w a.q a.v a.u 1 new g)) _ c.in_err-create.ensures.goes c.from_residual.ensures.1);
    }

pub returns-in_err-give : goal.returns-in_err-give
returns-in_err-give c =
    let a = c.args in
    let new = c.size-new.result in
    record {
      goes = next_named a.self.now _ a.out.now _ _ (λ k b w. asked b a.p a.q a.held.right a.held.to a.u a.v k w) new c.size-new.ensures.value
          (stops (λ b w. given b a.q a.v a.u 1 new (doing (creating a.q) w))
          (λ b w. taking_unless_held a.q new a.held.right a.held.to (given b a.p a.u new a.held.right a.held.to w))
          _ _ _
          (λ b v w. grows_left b v w a.p a.u new a.q a.held.right a.held.to) _ (λ b w was at. c.in_err-give.ensures.goes b _ was (c.in_ok-create.ensures.goes b w was at))
          c.from_residual-in_err-give.ensures.1);
    }
