use Rattle.std.proofs.Common.{◌+◌, get_or, drop, subst, arith, rules}
use Rattle.std.proofs.lemmas.List.{drop_all}
use Rattle.witness.specs.Plans.{Goes}
use Rattle.witness.proofs.Along.{Along, along_more, along_halted, along_end, along_held, rest_more}
use Rattle.witness.proofs.Going.{stopped}
use Rattle.witness.proofs.plan.Plan.take_along.Goals as goal
use Rattle.witness.proofs.plan.Plan.take_along.Goals.{else-path-test, then-path-test+then-has}

pub path-preserved : goal.path-preserved
path-preserved c = (
  search rules,
  λ b w was at.
      let path = c.args.path.now in
      let i = c.path.next-index in
      let next = get_or path i 0 in
      let so = subst (Along b c.args.p c.args.held.right c.args.held.to _ c.path.self was c.path.out c.path.at) (rest_more path i (omega arith)) (c.path.invariant.1 b w was at) in
      along_more b c.args.p c.args.held.right c.args.held.to _ c.path.self was c.path.out c.path.at next (drop (c.path.next-index + 1) path) so
      c.if-has.ensures.value c.take_unless_held.new.self c.take_unless_held.new.out
      (c.in_ok-take_unless_held.ensures.goes b so.so_far was so.stands),
)

pub returns-in_err-take_unless_held : goal.returns-in_err-take_unless_held
returns-in_err-take_unless_held c =
    record {
      goes = λ b w was at.
          let path = c.args.path.now in
          let i = c.path.next-index in
          let next = get_or path i 0 in
          let so = subst (Along b c.args.p c.args.held.right c.args.held.to _ c.path.self was c.path.out c.path.at) (rest_more path i (omega arith)) (c.path.invariant.1 b w was at) in
          stopped _ b _ c.from_residual.result _ was _ c.from_residual.ensures.1
          (along_halted b c.args.p c.args.held.right c.args.held.to _ c.path.self was c.path.out c.path.at next (drop (c.path.next-index + 1) path) so
          c.if-has.ensures.value _ (c.in_err-take_unless_held.ensures.goes b so.so_far was so.stands));
    }

pub returns : goal.returns
returns c =
    record {
      goes = λ b w was at.
          let so = c.path.invariant.1 b w was at in
          let path = c.args.path.now in
          let left = drop c.path.next-index path in
          let goes = c.take_unless_held-2.ensures.goes b so.so_far was so.stands in
          subst (λ v. Goes b v c.take_unless_held-2.result c.take_unless_held-2.new.self was c.take_unless_held-2.new.out)
          (elim c.path-test.branch [
            | else-path-test e ↦
                along_end b c.args.p c.args.held.right c.args.held.to _ c.path.self was c.path.out c.path.at left so
                (drop_all c.path.next-index path e.path-test.false)
            | then-path-test+then-has e ↦
                along_held b c.args.p c.args.held.right c.args.held.to _ c.path.self was c.path.out c.path.at left so e.if-has.ensures.value
          ])
          goes;
    }
