-- Taking along a path, vertex by vertex.
use Rattle.std.proofs.Common.{◌≡◌, ℕ, ◌+◌, ◌<◌, Bool, true, false, cond, List, [], ◌∷◌, length, get_or, drop, sym, ap, ◌∙◌, subst, add-one, drop-cons}
use Rattle.model.specs.State.{State, take_right}
use Rattle.model.specs.Exact.{Work, doing, taking, taking_unless_held, taking_along}
use Rattle.graph.specs.Graphs.{state}
use Rattle.witness.specs.declared.plan.Plan.{Plan}
use Rattle.witness.specs.declared.halt.Halt.{Halt}
use Rattle.witness.specs.Plans.{At, Halted}
use Rattle.witness.proofs.Going.{Grows, grows_not, grows_doing, halted_on}

pub grows_either : (v w u : Work) (c : Bool) → Grows v w → Grows v u → Grows v (cond c w u)
grows_either v w u true g h = g
grows_either v w u false g h = h

pub grows_held : (v w : Work) (p y r z : ℕ) → Grows v w → Grows v (taking_unless_held p y r z w)
grows_held v w p y r z g = grows_either v w (doing (taking p y r z) w) (w.state.has p r z) g (grows_doing v w (taking p y r z) g)

pub grows_along : (v w : Work) (p at : ℕ) (path : List ℕ) (r z : ℕ) → Grows v w → Grows v (taking_along p at path r z w)
unfolding taking_along
grows_along v w p at [] r z g = grows_held v w p at r z g
grows_along v w p at (next ∷ more) r z g =
    grows_either v w _ (w.state.has p r z) g
    (grows_along v (taking_unless_held p at take_right next w) p next more r z (grows_held v w p at take_right next g))

-- p has come to `at`, and what is left of the path leads to the goal.
pub record Along (b : State) (p r z : ℕ) (goal : Work) (plan : Plan) (was out : List ℕ) (at : ℕ) (rest : List ℕ) : Type 0 where
  pub so_far : Work
  pub stands : At b so_far plan was out
  pub leads : taking_along p at rest r z so_far ≡ goal

module _ (b : State) (p r z : ℕ) (goal : Work) (plan : Plan) (was out : List ℕ) (at : ℕ) where
  has_is : (rest : List ℕ) (i : Along b p r z goal plan was out at rest) (a : Bool) → a ≡ (state plan.graph).has p r z → i.so_far.state.has p r z ≡ a
  has_is rest i a h = sym (h ∙ ap (λ (s : State). s.has p r z) i.stands.here)

  -- Without the right, one step further.
  further : (next : ℕ) (more : List ℕ) (i : Along b p r z goal plan was out at (next ∷ more)) → false ≡ (state plan.graph).has p r z →
      taking_along p next more r z (taking_unless_held p at take_right next i.so_far) ≡ goal
  unfolding taking_along
  further next more i h =
      sym (ap (λ c. cond c i.so_far (taking_along p next more r z (taking_unless_held p at take_right next i.so_far))) (has_is (next ∷ more) i false h))
      ∙ i.leads

  pub along_more : (next : ℕ) (more : List ℕ) (i : Along b p r z goal plan was out at (next ∷ more)) → false ≡ (state plan.graph).has p r z →
      (plan' : Plan) (out' : List ℕ) → At b (taking_unless_held p at take_right next i.so_far) plan' was out' → Along b p r z goal plan' was out' next more
  along_more next more i h plan' out' a = record { so_far = taking_unless_held p at take_right next i.so_far; stands = a; leads = further next more i h }

  pub along_halted : (next : ℕ) (more : List ℕ) (i : Along b p r z goal plan was out at (next ∷ more)) → false ≡ (state plan.graph).has p r z →
      (halt : Halt) → Halted halt b (length was) (taking_unless_held p at take_right next i.so_far) → Halted halt b (length was) goal
  along_halted next more i h halt halted =
      let v = taking_unless_held p at take_right next i.so_far in
      subst (Halted halt b (length was)) (further next more i h)
      (halted_on halt b (length was) v _ (grows_along v v p next more r z (grows_not v)) halted)

  -- At the end of the path, or with the right, the last take is what is left.
  pub along_end : (rest : List ℕ) (i : Along b p r z goal plan was out at rest) → rest ≡ [] → taking_unless_held p at r z i.so_far ≡ goal
  unfolding taking_along
  along_end rest i e = sym (ap (λ t. taking_along p at t r z i.so_far) e) ∙ i.leads

  pub along_held : (rest : List ℕ) (i : Along b p r z goal plan was out at rest) → true ≡ (state plan.graph).has p r z →
      taking_unless_held p at r z i.so_far ≡ goal
  unfolding taking_along
  along_held [] i h = i.leads
  along_held (next ∷ more) i h =
      let e = has_is (next ∷ more) i true h in
      let w = i.so_far in
      ap (λ c. cond c w (doing (taking p at r z) w)) e
      ∙ sym (ap (λ c. cond c w (taking_along p next more r z (taking_unless_held p at take_right next w))) e)
      ∙ i.leads

-- What is left of a path from place i on.
pub rest_more : (path : List ℕ) (i : ℕ) → i < length path → drop i path ≡ get_or path i 0 ∷ drop (i + 1) path
rest_more path i h = drop-cons path i 0 h ∙ ap (λ m. get_or path i 0 ∷ drop m path) (sym (add-one i))
