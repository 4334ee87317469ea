use Rattle.std.proofs.Common.{ℕ, List, sym, ap, ◌∙◌}
use Rattle.model.specs.Exact.{shortest_row_of, taking_along, taking_to, taking_unless_held}
use Rattle.model.specs.Spans.{can_take}
use Rattle.witness.specs.Of.{routed}
use Rattle.witness.proofs.Going.{same_step}
use Rattle.witness.proofs.Walked.{stays_put}
use Rattle.witness.proofs.plan.Plan.take_to.Goals as goal

-- A path to oneself has no step.
pub returns-then-p-y : goal.returns-then-p-y
unfolding taking_along
returns-then-p-y c =
    let a = c.args in
    let s = routed a.self.now.routes.now in
    record {
      goes = same_step a.self.now _ a.out.now _ _ (λ b. taking_unless_held a.p a.p a.held.right a.held.to) (λ b. taking_to b a.p a.y a.held.right a.held.to)
          (λ w. ap (λ (path : List ℕ). taking_along a.p a.p path a.held.right a.held.to w)
          (sym (stays_put s.size (can_take s) a.p) ∙ ap (shortest_row_of s.size (can_take s) a.p) c.if-p-y.true))
          c.take_unless_held.ensures.goes;
    }
