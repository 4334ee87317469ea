-- A plan goes on: one more act, and what can't be reached any more.
use Rattle.std.proofs.Common.{◌≡◌, ℕ, T, Ok, Err, Result, List, [], ◌∷◌, ◌++◌, length, sym, refl, ap, ◌∙◌, subst, append_assoc, append-nil, arith, length-append}
use Rattle.std.specs.Result.{IsErrAnd}
use Rattle.model.specs.State.{State}
use Rattle.model.specs.Rules.{applied}
use Rattle.model.specs.Exact.{Work, doing}
use Rattle.model.specs.declared.Rule.{Rule}
use Rattle.codec.specs.Acts.{act_bytes}
use Rattle.graph.specs.Graphs.{state}
use Rattle.witness.specs.declared.plan.Plan.{Plan}
use Rattle.witness.specs.Of.{routed}
use Rattle.witness.specs.Plans.{acts_bytes, done, performable, At, Does, Goes, Halted}
use Rattle.witness.specs.declared.halt.Halt.{Halt}
use Rattle.witness.proofs.Performed.{performed_front}

pub acts_more : (rs : List Rule) (a : Rule) → acts_bytes (rs ++ (a ∷ [])) ≡ acts_bytes rs ++ act_bytes a
unfolding acts_bytes
acts_more [] a = append-nil (act_bytes a)
acts_more (c ∷ rs) a = ap (λ t. act_bytes c ++ t) (acts_more rs a) ∙ sym (append_assoc (act_bytes c) (acts_bytes rs) (act_bytes a))

pub acts_append : (rs more : List Rule) → acts_bytes (rs ++ more) ≡ acts_bytes rs ++ acts_bytes more
unfolding acts_bytes
acts_append [] more = refl
acts_append (c ∷ rs) more = ap (λ t. act_bytes c ++ t) (acts_append rs more) ∙ sym (append_assoc (act_bytes c) (acts_bytes rs) (acts_bytes more))

pub done_more : (b : State) (rs : List Rule) (a : Rule) → done b (rs ++ (a ∷ [])) ≡ applied (done b rs) a
unfolding done
done_more b [] a = refl
done_more b (c ∷ rs) a = done_more (applied b c) rs a

-- One work goes on from another.
pub record Grows (v w : Work) : Type 0 where
  pub more : List Rule
  pub behind : w.rules ≡ v.rules ++ more

pub grows_not : (v : Work) → Grows v v
grows_not v = record { more = []; behind = sym (append-nil v.rules) }

pub grows_then : (u v w : Work) → Grows u v → Grows v w → Grows u w
grows_then u v w g h =
    record { more = g.more ++ h.more; behind = h.behind ∙ ap (λ t. t ++ h.more) g.behind ∙ append_assoc u.rules g.more h.more }

pub grows_doing : (v w : Work) (a : Rule) → Grows v w → Grows v (doing a w)
grows_doing v w a g = grows_then v w (doing a w) g (record { more = a ∷ []; behind = refl })

pub halted_on : (halt : Halt) (b : State) (room : ℕ) (v w : Work) → Grows v w → Halted halt b room v → Halted halt b room w
halted_on halt b room v w g h = (
  λ e l.
      h.0 e
      (let more = ap (λ rs. length (acts_bytes rs)) g.behind ∙ ap length (acts_append v.rules g.more) ∙ length-append (acts_bytes v.rules) (acts_bytes g.more) in omega arith),
  λ e t. h.1 e (performed_front b v.rules g.more (subst (λ rs. T (performable b rs)) g.behind t)),
)

-- A step that ended in an error.
pub stopped : (halt : Halt) (b : State) (w : Work) (r : Result (Unit {0}) Halt) (plan : Plan) (was out : List ℕ) → IsErrAnd r (λ e. e ≡ halt) → Halted halt b (length was) w → Goes b w r plan was out
stopped halt b w (Err e) plan was out failed h = subst (λ z. Halted z b (length was) w) (sym failed) h
stopped halt b w (Ok _) plan was out failed h = absurd failed

-- One step and then another: as far as they go, and where the first can't be taken.
module _ {plan : Plan} {out : List ℕ} (first then : State → Work → Work) where
  pub goes_on : {mid : Plan} {out' : List ℕ} (r : Result (Unit {0}) Halt) (after : Plan) (out'' : List ℕ) →
      ((b : State) (w : Work) (was : List ℕ) → At b w plan was out → At b (first b w) mid was out') →
      Does then mid out' r after out'' → Does (λ b w. then b (first b w)) plan out r after out''
  goes_on r after out'' f g b w was at = g b (first b w) was (f b w was at)

  pub stops : (r : Result (Unit {0}) Halt) (after : Plan) (out'' : List ℕ) → ((b : State) (v w : Work) → Grows v w → Grows v (then b w)) →
      (halt : Halt) → ((b : State) (w : Work) (was : List ℕ) → At b w plan was out → Halted halt b (length was) (first b w)) → IsErrAnd r (λ e. e ≡ halt) →
      Does (λ b w. then b (first b w)) plan out r after out''
  stops r after out'' grows halt f failed b w was at =
      stopped halt b (then b (first b w)) r _ was _ failed (halted_on halt b (length was) (first b w) (then b (first b w)) (grows b (first b w) (first b w) (grows_not (first b w))) (f b w was at))

module _ (plan next : Plan) (out after : List ℕ) (r : Result (Unit {0}) Halt) where
  -- A step that is the same in the state that the plan is chosen in.
  pub same_step : (step other : State → Work → Work) → ((w : Work) → step (routed plan.routes.now) w ≡ other (routed plan.routes.now) w) →
      Does step plan out r next after → Does other plan out r next after
  same_step step other e d b w was at =
      subst (λ (v : Work). Goes b v r next was after) (subst (λ (z : State). step z w ≡ other z w) at.about (e w)) (d b w was at)

  -- A step that names the next vertex by its number.
  pub next_named : (step : ℕ → State → Work → Work) (k : ℕ) → k ≡ (state plan.graph).size → Does (step k) plan out r next after →
      Does (λ b w. step w.state.size b w) plan out r next after
  next_named step k e d b w was at =
      subst (λ (m : ℕ). Goes b (step m b w) r next was after) (e ∙ ap (λ (z : State). z.size) at.here) (d b w was at)
