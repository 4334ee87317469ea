-- One more act of a plan: done and written, or halted.
use Rattle.std.proofs.Common.{◌≡◌, ℕ, ◌+◌, ◌-◌, ◌<◌, ◌≤◌, T, Ok, Err, List, [], ◌∷◌, ◌++◌, length, take, drop, sym, ap, ◌∙◌, subst, ap₂, append_assoc, append-nil, arith, length-append, length-drop}
use borrow.Rule.Slice.PartMut.{put_mid}
use Rattle.std.proofs.lemmas.List.{take_at, drop_at, drop-drop, take_all, drop_all, length-take-le}
use Rattle.model.specs.State.{State}
use Rattle.model.specs.Rules.{applied}
use Rattle.model.specs.Exact.{Work, doing}
use Rattle.model.specs.declared.Rule.{Rule}
use Rattle.std.specs.Result.{is_ok}
use Rattle.graph.specs.Graphs.{state, answer}
use Rattle.graph.specs.declared.refusal.Refusal.{Refusal}
use Rattle.codec.specs.Acts.{act_bytes}
use Rattle.witness.specs.declared.plan.Plan.{Plan}
use Rattle.witness.specs.declared.halt.Halt.{Halt}
use Rattle.witness.specs.declared.halt.Halt.TheVariants.{NoSpace, Refused}
use Rattle.witness.specs.Of.{routed}
use Rattle.witness.specs.Plans.{acts_bytes, At, Halted}
use Rattle.witness.proofs.Going.{acts_more, done_more}
use Rattle.witness.proofs.Performed.{performed_last, performed_more}

-- Bytes A written at the start of the free end D, behind U.
put_behind :
    (U D A out free : List ℕ) (used n k : ℕ) → out ≡ U ++ D → length U ≡ used → k ≡ length out - used → free ≡ A ++ drop n (take k (drop used out)) →
    put_mid used k out free ≡ (U ++ A) ++ drop n D
put_behind U D A out free used n k o e l f =
    ap₂ (λ t r. t ++ r) (ap (take used) o ∙ take_at U D used e) (ap₂ (λ x y. x ++ y) start (ap (drop k) rest ∙ drop_all k D (omega (arith, size))))
    ∙ ap (λ t. U ++ t) (append-nil (A ++ drop n D))
    ∙ sym (append_assoc U A (drop n D))
  where
    size : length out ≡ length U + length D
    size = ap length o ∙ length-append U D

    rest : drop used out ≡ D
    rest = ap (drop used) o ∙ drop_at U D used e

    start : free ≡ A ++ drop n D
    start = f ∙ ap (λ x. A ++ drop n x) (ap (take k) rest ∙ take_all k D (omega (arith, size)))

module _ (b : State) (w : Work) (plan : Plan) (was out : List ℕ) (at : At b w plan was out) where
  whole : length out ≡ plan.used + (length was - plan.used)
  whole =
      ap length at.written ∙ length-append (acts_bytes w.rules) (drop plan.used was)
      ∙ ap₂ (λ m n. m + n) (sym at.bytes) (length-drop plan.used was)

  -- What is written has room in the slice.
  pub roomy : length out ≡ length was → plan.used ≤ length was
  roomy e = omega (arith, whole)

module _ (b : State) (w : Work) (plan : Plan) (was out : List ℕ) (a : Rule) (at : At b w plan was out) where
  more_bytes : length (acts_bytes (w.rules ++ (a ∷ []))) ≡ plan.used + length (act_bytes a)
  more_bytes = ap length (acts_more w.rules a) ∙ length-append (acts_bytes w.rules) (act_bytes a) ∙ ap (λ m. m + length (act_bytes a)) (sym at.bytes)

  pub acted :
      (next : Plan) (n k : ℕ) (free : List ℕ) → next.routes ≡ plan.routes → Ok tt ≡ answer (state plan.graph) a → state next.graph ≡ applied (state plan.graph) a → next.used ≡ plan.used + n → next.acts ≡ plan.acts + 1 →
      n ≡ length (act_bytes a) → k ≡ length out - plan.used → free ≡ act_bytes a ++ drop n (take k (drop plan.used out)) →
      At b (doing a w) next was (put_mid plan.used k out free)
  acted next n k free o d g u c e l f =
      record {
        about = ap (λ z. routed z.now) o ∙ at.about;
        here = g ∙ ap (λ s. applied s a) at.here;
        reached = ap (λ s. applied s a) at.reached ∙ sym (done_more b w.rules a);
        performed =
            performed_more b w.rules a at.performed (subst (λ o. T (is_ok o)) (d ∙ ap (λ s. answer s a) (at.here ∙ at.reached)) tt);
        bytes = u ∙ ap (λ m. plan.used + m) e ∙ sym more_bytes;
        count = c ∙ ap (λ m. m + 1) at.count ∙ sym (length-append w.rules (a ∷ []));
        written =
            put_behind (acts_bytes w.rules) (drop plan.used was) (act_bytes a) out free plan.used n k at.written (sym at.bytes) l f
            ∙ ap₂ (λ x y. x ++ y) (sym (acts_more w.rules a)) (drop-drop n plan.used was ∙ ap (λ m. drop m was) (sym u));
      }

  pub no_space : (halt : Halt) (k : ℕ) → k ≡ length out - plan.used → (halt ≡ NoSpace) × (length (take k (drop plan.used out)) < length (act_bytes a)) → Halted halt b (length was) (doing a w)
  no_space halt k l h = (
    λ e room.
        let short = h.1 in
        let free = length-take-le k (drop plan.used out) (let d = length-drop plan.used out in omega arith) in omega (arith, more_bytes, whole b w plan was out at),
    λ e t. let is = h.0 in let none : ⊥ = cc in absurd none,
  )

  pub refused : (r : Refusal) → Err r ≡ answer (state plan.graph) a → Halted Refused b (length was) (doing a w)
  refused r e = (
    λ no room. let none : ⊥ = cc in absurd none,
    λ is t. subst T (ap (λ s. is_ok (answer s a)) (sym (at.here ∙ at.reached)) ∙ ap is_ok (sym e)) (performed_last b w.rules a t),
  )
