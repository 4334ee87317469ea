use Rattle.std.proofs.Common.{◌+◌, ◌-◌, ◌≤◌, T, List, ◌++◌, length, take, drop, sym, refl, ap, ◌∙◌, subst, arith, rules}
use Rattle.graph.proofs.Sound.{well_formed-law}
use Rattle.model.specs.Exact.{Work}
use Rattle.model.specs.declared.Rule.{Rule}
use Rattle.witness.specs.Answers.{witness_of}
use Rattle.witness.specs.Of.{routed}
use Rattle.witness.specs.Plans.{acts_bytes, performable}
use Rattle.witness.proofs.Acted.{roomy}
use Rattle.witness.proofs.Exactly.{answered, begun, free_length, given_up, witness_is, work_of, yes_length}
use Rattle.witness.proofs.Performed.{performed_all, performed_applicable}
use Rattle.witness.proofs.routes.Routes.write_plan.Goals as goal

pub returns-in_err-carry : goal.returns-in_err-carry
returns-in_err-carry c =
    let b = routed c.args.self.now in
    let q = c.args.question in
    let was = c.args.out.now in
    let free = take (length was - 5) (drop 5 was) in
    let rules =
    ap (λ (v : Work). v.rules) (work_of b (well_formed-law c.args.self.now.graph.now) q c.args.ends c.requires.exact) ∙ sym (witness_is b q c.requires.lacks) in
    let halted = c.in_err-carry.ensures.goes b (begun b) free (c.of-plan.ensures free) in
    given_up _ b (witness_of b q) c.from_residual.result was _ c.from_residual.ensures.1
    (λ is l. subst (λ (z : List Rule). length (acts_bytes z) ≤ length free → ⊥) rules (halted.0 is)
    (omega (arith, yes_length (witness_of b q), free_length was was was (length was - 5) refl (omega arith))))
    (λ is t h. subst (λ (z : List Rule). T (performable b z) → ⊥) rules (halted.1 is) (performed_all b (witness_of b q) t h))

pub overflow_add-result : goal.overflow_add-result
overflow_add-result c =
    let b = routed c.args.self.now in
    let was = c.args.out.now in
    let free = take (length was - 5) (drop 5 was) in
    let plan = c.carry.new.self in
    let at = c.in_ok-carry.ensures.goes b (begun b) free (c.of-plan.ensures free) in
    let bound : c.in_ok-head.head + plan.used ≤ length was =
    omega (arith, free_length was was was (length was - 5) refl (omega arith), roomy b _ plan free c.carry.new.out at c.carry.auto.out, c.in_ok-head.ensures.0) in
    search rules

pub returns : goal.returns
returns c =
    let b = routed c.args.self.now in
    let q = c.args.question in
    let was = c.args.out.now in
    let free = take (length was - 5) (drop 5 was) in
    let plan = c.carry.new.self in
    let rules =
    ap (λ (v : Work). v.rules) (work_of b (well_formed-law c.args.self.now.graph.now) q c.args.ends c.requires.exact) ∙ sym (witness_is b q c.requires.lacks) in
    let at = c.in_ok-carry.ensures.goes b (begun b) free (c.of-plan.ensures free) in
    let head = c.in_ok-head.ensures in
    let said =
    answered (witness_of b q) was c.carry.new.out c.write_head.new.out (length was - 5) refl (omega arith) plan.used plan.acts c.in_ok-head.head
    (at.bytes ∙ ap (λ (z : List Rule). length (acts_bytes z)) rules) (at.count ∙ ap length rules) head.0
    (at.written ∙ ap (λ (z : List Rule). acts_bytes z ++ drop plan.used free) rules) head.2 in
    (said.0, said.1, performed_applicable b (witness_of b q) (subst (λ (z : List Rule). T (performable b z)) rules at.performed))
