use Rattle.std.proofs.Common.{sym}
use Rattle.model.specs.Exact.{asked, fetched, left, over_bridge, passed}
use Rattle.witness.specs.Of.{routed}
use Rattle.witness.proofs.Crossing.{over_fetched, over_left, over_passed, over_asked}
use Rattle.witness.proofs.Going.{same_step}
use Rattle.witness.proofs.plan.Plan.over_bridge.Goals as goal

pub returns-then-leads : goal.returns-then-leads
returns-then-leads c =
    let a = c.args in
    let s = routed a.self.now.routes.now in
    record {
      goes = same_step a.self.now _ a.out.now _ _ (λ b. fetched b a.p a.q a.held.right a.held.to) (λ b. over_bridge b a.p a.q a.held.right a.held.to)
          (λ w. sym (over_fetched s a.p a.q a.held.right a.held.to w c.if-leads.ensures.value)) c.take_to.ensures.goes;
    }

pub returns-then-leads-2 : goal.returns-then-leads-2
returns-then-leads-2 c =
    let a = c.args in
    let s = routed a.self.now.routes.now in
    record {
      goes = same_step a.self.now _ a.out.now _ _ (λ b w. left b a.p a.q a.held.right a.held.to w.state.size w) (λ b. over_bridge b a.p a.q a.held.right a.held.to)
          (λ w. sym (over_left s a.p a.q a.held.right a.held.to w c.if-leads.ensures.value c.if-leads-2.ensures.value)) c.leave.ensures.goes;
    }

pub returns-then-grants : goal.returns-then-grants
returns-then-grants c =
    let a = c.args in
    let s = routed a.self.now.routes.now in
    let u = c.near_end-u.result in
    let v = c.far_end-v.result in
    record {
      goes = same_step a.self.now _ a.out.now _ _ (λ b. passed b a.p a.q a.held.right a.held.to u v) (λ b. over_bridge b a.p a.q a.held.right a.held.to)
          (λ w. sym (over_passed s a.p a.q a.held.right a.held.to w c.if-leads.ensures.value c.if-leads-2.ensures.value
          u v c.near_end-u.ensures.value c.far_end-v.ensures.value c.if-grants.ensures.value))
          c.pass.ensures.goes;
    }

pub returns-else-grants : goal.returns-else-grants
returns-else-grants c =
    let a = c.args in
    let s = routed a.self.now.routes.now in
    let u = c.near_end-u.result in
    let v = c.far_end-v.result in
    record {
      goes = same_step a.self.now _ a.out.now _ _ (λ b w. asked b a.p a.q a.held.right a.held.to u v w.state.size w) (λ b. over_bridge b a.p a.q a.held.right a.held.to)
          (λ w. sym (over_asked s a.p a.q a.held.right a.held.to w c.if-leads.ensures.value c.if-leads-2.ensures.value
          u v c.near_end-u.ensures.value c.far_end-v.ensures.value c.if-grants.ensures.value))
          c.ask.ensures.goes;
    }
