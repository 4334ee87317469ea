use Rattle.std.proofs.Common.{◌+◌, get_or, drop, subst, arith, rules}
use Rattle.std.proofs.lemmas.List.{drop_all}
use Rattle.model.specs.Exact.{Work}
use Rattle.witness.specs.Plans.{At}
use Rattle.witness.proofs.Along.{rest_more}
use Rattle.witness.proofs.Crossing.{Over, over_more, over_halted, over_end}
use Rattle.witness.proofs.Going.{stopped}
use Rattle.witness.proofs.plan.Plan.over_row.Goals as goal

pub loop-next-preserved : goal.loop-next-preserved
loop-next-preserved c = (
  search rules,
  λ b w was at.
      let l = c.loop-next in
      let h = c.args.held in
      let row = c.args.row.now in
      let so = subst (Over b h.right h.to _ l.self was l.out l.at) (rest_more row l.next-index (omega arith)) (l.invariant.1 b w was at) in
      over_more b h.right h.to _ l.self was l.out l.at (get_or row l.next-index 0) (drop (l.next-index + 1) row) so
      c.over_bridge.new.self c.over_bridge.new.out (c.in_ok-over_bridge.ensures.goes b so.so_far was so.stands),
)

pub returns-in_err-over_bridge : goal.returns-in_err-over_bridge
returns-in_err-over_bridge c =
    record {
      goes = λ b w was at.
          let l = c.loop-next in
          let h = c.args.held in
          let row = c.args.row.now in
          let so = subst (Over b h.right h.to _ l.self was l.out l.at) (rest_more row l.next-index (omega arith)) (l.invariant.1 b w was at) in
          stopped _ b _ c.from_residual.result _ was _ c.from_residual.ensures.1
          (over_halted b h.right h.to _ l.self was l.out l.at (get_or row l.next-index 0) (drop (l.next-index + 1) row) so _
          (c.in_err-over_bridge.ensures.goes b so.so_far was so.stands));
    }

pub returns : goal.returns
returns c =
    record {
      goes = λ b w was at.
          let l = c.loop-next in
          let row = c.args.row.now in
          let so = l.invariant.1 b w was at in
          subst (λ (v : Work). At b v l.self was l.out)
          (over_end b c.args.held.right c.args.held.to _ l.self was l.out l.at (drop l.next-index row) so (drop_all l.next-index row c.loop-next-test.false))
          so.stands;
    }
