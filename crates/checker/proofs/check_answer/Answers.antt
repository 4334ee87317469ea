use Rattle.std.proofs.Common.{◌≡◌, ℕ, cond, eqb, List, Err, sym, refl, ap, ◌∙◌, inl, inr, rules}
use Rattle.std.proofs.lemmas.Result.{err_from_is_err_and}
use Rattle.model.specs.State.{State}
use Rattle.model.specs.declared.Question.{Question}
use Rattle.graph.specs.Graphs.{state}
use Rattle.codec.specs.Kinds.{IsNoKindAt}
use Rattle.codec.specs.Reading.{byte_at}
use Rattle.codec.specs.declared.fault.Fault.{Fault}
use Rattle.codec.specs.declared.fault.Fault.TheVariants.{UnknownKind}
use Rattle.codec.specs.declared.kind.Kind.TheVariants.{Yes, No}
use Rattle.codec.proofs.Inverted.{not_kind, no_kind_in}
use Rattle.checker.specs.Reading.{Checked, reading}
use Rattle.checker.specs.Checked.{witness_checked, certificate_checked}
use Rattle.checker.specs.declared.fault.CheckFault.TheVariants.{Input}
use Rattle.checker.proofs.Ways.{reading_on}
use Rattle.checker.proofs.check_answer.Goals as goal

-- Where an answer should begin, nothing that may stand there does.
no_answer : (bs : List ℕ) (s : State) (q : Question) (at : ℕ) (f : Fault) → IsNoKindAt bs at f → Err (Input f) ≡ reading (byte_at bs at) (λ kind. cond (eqb kind.0 16) (witness_checked bs s q kind.1) (cond (eqb kind.0 17) (certificate_checked bs s q kind.1) (Err (Input (UnknownKind at)))))
no_answer bs s q at f h =
    elim h [
      | inl e ↦ ap (λ r. reading r body) (sym e)
      | inr k ↦ ap (λ d. Err (Input d)) k.3 ∙ sym (reading_on (byte_at bs at) body k.0 k.1 ∙ not_kind Yes k.0.0 _ _ k.2 ∙ not_kind No k.0.0 _ _ k.2)
    ]
  where
    body : ℕ × ℕ → Checked (Unit {0})
    body kind = cond (eqb kind.0 16) (witness_checked bs s q kind.1) (cond (eqb kind.0 17) (certificate_checked bs s q kind.1) (Err (Input (UnknownKind at))))

pub returns-in_err-kind : goal.returns-in_err-kind
returns-in_err-kind c =
    let p = err_from_is_err_and c.from_residual-in_err-kind.result c.from_residual-in_err-kind.ensures.1 in
    let none = no_kind_in c.in_ok-question.ensures.value.0 refl c.in_err-kind.ensures.value in
    rw (p.1, p.2) (no_answer c.args.input.now.bytes.now (state c.args.graph.now) c.in_ok-question.question c.question.new.self.at _ none ∙ search rules)
