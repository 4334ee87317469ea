use Rattle.std.proofs.Common.{List, sym, ap, ◌∙◌, subst, arith}
use Rattle.graph.specs.Graphs.{state}
use Rattle.graph.proofs.Sound.{well_formed-law}
use Rattle.model.specs.Sharing.{can_get}
use Rattle.model.specs.State.{State}
use Rattle.model.specs.declared.Rule.{Rule}
use Rattle.witness.specs.Answers.{Answered, witness_of}
use Rattle.witness.proofs.Exactly.{none_answered, none_needed, yes_length}
use Rattle.witness.proofs.Performed.{performed_all}
use Rattle.witness.proofs.Unshared.{never_performed}
use Rattle.witness.proofs.answer.write_witness.Goals as goal

pub returns-then-out-lt-HEAD : goal.returns-then-out-lt-HEAD
returns-then-out-lt-HEAD c = record { value = λ l. omega (arith, yes_length (witness_of (state c.args.graph.now) c.args.question)) }

pub returns-then-has : goal.returns-then-has
returns-then-has c =
    let b = state c.args.graph.now in
    record {
      value =
          subst (λ (rules : List Rule). Answered b rules c.write_head.result c.args.out.now c.write_head.new.out) (sym (none_needed b c.args.question c.if-has.ensures.value))
          (none_answered b c.write_head.result c.args.out.now c.write_head.new.out c.write_head.ensures);
    }

pub returns-in_default : goal.returns-in_default
returns-in_default c =
    let b = state c.args.graph.now in
    let q = c.args.question in
    record {
      value = λ t h.
          never_performed b (well_formed-law c.args.graph.now) q c.if-has.ensures.value
          (ap (λ (s : State). can_get s q.holder q.right q.target) (sym c.of-routes.ensures.value) ∙ c.in_default.ensures.cases.0)
          (performed_all b (witness_of b q) t h);
    }
