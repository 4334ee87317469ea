use Rattle.std.proofs.Common.{ℕ, List, length, ap, ◌∙◌, subst}
use Rattle.model.specs.State.{State}
use Rattle.model.specs.Spans.{bridge}
use Rattle.model.specs.Exact.{handed_to, over_row, shortest_row_of, taking_to}
use Rattle.witness.specs.Plans.{Goes, Halted}
use Rattle.witness.proofs.Crossing.{grows_row, grows_handed}
use Rattle.witness.proofs.Going.{grows_not, halted_on, stopped, stops}
use Rattle.witness.proofs.plan.Plan.carry.Goals as goal

pub returns-in_err-take_to : goal.returns-in_err-take_to
returns-in_err-take_to c =
    let q = c.args.question in
    let e = c.args.ends in
    record {
      goes = stops (λ b. taking_to b e.last e.holder q.right q.target)
          (λ b w. handed_to b e.first q.holder q.right q.target (over_row b e.last (shortest_row_of b.size (bridge b) e.last e.first) q.right q.target w)) _ _ _
          (λ b v w g. grows_handed b v _ e.first q.holder q.right q.target (grows_row b v w e.last (shortest_row_of b.size (bridge b) e.last e.first) q.right q.target g))
          _ c.in_err-take_to.ensures.goes c.from_residual.ensures.1;
    }

pub returns-in_err-over_row : goal.returns-in_err-over_row
returns-in_err-over_row c =
    let q = c.args.question in
    let e = c.args.ends in
    record {
      goes = λ b w was at.
          let mid = c.in_ok-take_to.ensures.goes b w was at in
          let w1 = taking_to b e.last e.holder q.right q.target w in
          let w2 = over_row b e.last c.vertices.result.now q.right q.target w1 in
          stopped _ b _ c.from_residual-in_err-over_row.result _ was _ c.from_residual-in_err-over_row.ensures.1
          (subst (λ (row : List ℕ). Halted c.in_err-over_row.field-0.0 b (length was) (handed_to b e.first q.holder q.right q.target (over_row b e.last row q.right q.target w1)))
          (c.vertices.ensures ∙ c.row-row.ensures.value ∙ ap (λ (z : State). shortest_row_of z.size (bridge z) e.last e.first) mid.about)
          (halted_on _ b (length was) w2 _ (grows_handed b w2 w2 e.first q.holder q.right q.target (grows_not w2))
          (c.in_err-over_row.ensures.goes b w1 was mid)));
    }

pub returns : goal.returns
returns c =
    let q = c.args.question in
    let e = c.args.ends in
    record {
      goes = λ b w was at.
          let mid = c.in_ok-take_to.ensures.goes b w was at in
          let w1 = taking_to b e.last e.holder q.right q.target w in
          subst (λ (row : List ℕ). Goes b (handed_to b e.first q.holder q.right q.target (over_row b e.last row q.right q.target w1)) c.hand_to.result c.hand_to.new.self was c.hand_to.new.out)
          (c.vertices.ensures ∙ c.row-row.ensures.value ∙ ap (λ (z : State). shortest_row_of z.size (bridge z) e.last e.first) mid.about)
          (c.hand_to.ensures.goes b _ was
          (c.in_ok-over_row.ensures.goes b w1 was mid));
    }
