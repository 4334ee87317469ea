use Rattle.std.proofs.Common.{ℕ, ◌||◌, Result, sym, refl, ap, subst, ap₂, arith}
use Rattle.std.proofs.lemmas.Result.{err_from_is_err_and}
use Rattle.model.specs.Sharing.{can_share}
use Rattle.graph.proofs.Sound.{well_formed-law}
use Rattle.witness.specs.Answers.{Answered, head_bytes, longest_answer_len, witness_of}
use Rattle.witness.specs.Of.{routed}
use Rattle.witness.specs.Plans.{Wrote}
use Rattle.witness.specs.declared.halt.Halt.{Halt}
use Rattle.witness.proofs.Exactly.{ends_share, held_written, never_halts, plan_written}
use Rattle.witness.proofs.routes.Routes.write_witness.Goals as goal

pub returns-then-has : goal.returns-then-has
returns-then-has c =
    let b = routed c.args.self.now in
    let q = c.args.question in
    record {
      value =
          held_written b q c.unwrap.result c.args.out.now c.write_head.new.out c.if-has.ensures.value
          (subst (λ (r : Result ℕ Halt). Wrote r (head_bytes 0) c.args.out.now c.write_head.new.out) c.unwrap.ensures c.write_head.ensures);
    }

pub returns-in_err-ends : goal.returns-in_err-ends
unfolding can_share
returns-in_err-ends c =
    let b = routed c.args.self.now in
    let q = c.args.question in
    let never = c.in_err-ends.ensures.cases in
    let p = err_from_is_err_and c.from_residual.result c.from_residual.ensures.1 in
    rw (p.1, p.2)
    (record { value = record { same = refl; unshared = ap₂ (λ x y. x || y) (sym c.if-has.ensures.value) never.0; round = never.1 } })

pub unwrap-requires-2 : goal.unwrap-requires-2
unwrap-requires-2 c =
    let r = c.args.self.now in
    never_halts (routed r) (well_formed-law r.graph.now) c.args.question c.in_ok-ends.ends c.in_ok-ends.ensures.cases c.write_plan.result c.args.out.now c.write_plan.new.out
    (omega (arith, c.size-size.ensures.value)) (omega (arith, c.if-out-longest_answer.false, c.longest_answer.ensures, ap longest_answer_len c.size-size.ensures.value)) c.write_plan.ensures

pub returns : goal.returns
returns c =
    let r = c.args.self.now in
    let b = routed r in
    let q = c.args.question in
    record {
      value =
          plan_written b q c.unwrap-2.result c.args.out.now c.write_plan.new.out (ends_share b (well_formed-law r.graph.now) q c.in_ok-ends.ends c.in_ok-ends.ensures.cases) c.write_plan.auto.out
          (subst (λ (z : Result ℕ Halt). Answered b (witness_of b q) z c.args.out.now c.write_plan.new.out) c.unwrap-2.ensures c.write_plan.ensures);
    }
