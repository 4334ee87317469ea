use Rattle.std.proofs.Common.{refl}
use Rattle.witness.proofs.Acted.{acted, no_space, refused}
use Rattle.witness.proofs.Going.{stopped}
use Rattle.witness.proofs.plan.Plan.act.Goals as goal

pub returns-in_err-count : goal.returns-in_err-count
returns-in_err-count c =
    record {
      goes = λ b w was at.
          stopped _ b _ c.from_residual.result c.args.self.now was _ c.from_residual.ensures.1
          (no_space b w c.args.self.now was c.args.out.now c.args.rule at _ _ refl c.in_err-count.ensures);
    }

pub returns-in_err-apply : goal.returns-in_err-apply
returns-in_err-apply c =
    record {
      goes = λ b w was at.
          stopped _ b _ c.from_residual-in_err-apply.result _ was _ c.from_residual-in_err-apply.ensures.1
          (refused b w c.args.self.now was c.args.out.now c.args.rule at _ c.in_err-apply.ensures.value);
    }

pub returns : goal.returns
returns c =
    record {
      goes = λ b w was at.
          acted b w c.args.self.now was c.args.out.now c.args.rule at _ c.in_ok-count.count _ c.write_act.new.free refl
          c.in_ok-apply.ensures.value c.in_ok-apply.ensures.after refl refl c.in_ok-count.ensures.0 refl c.in_ok-count.ensures.2;
    }
