-- Each way over a bridge, and a row of them, goes on from where it begins.
use Rattle.std.proofs.Common.{◌≡◌, ℕ, true, false, cond, eqb, List, [], ◌∷◌, length, sym, ap, ◌∙◌, subst, ap₂}
use Rattle.std.proofs.lemmas.Bool.{cond-true, cond-false}
use Rattle.model.specs.State.{State, grant_right}
use Rattle.model.specs.Spans.{take_path, can_grant}
use Rattle.model.specs.Exact.{Work, doing, granting, creating, taking_to, taking_unless_held, shortest_path, fetched, left, passed, asked, near_end, far_end, over_bridge, over_row, last_holder, handed_to}
use Rattle.witness.specs.declared.plan.Plan.{Plan}
use Rattle.witness.specs.declared.halt.Halt.{Halt}
use Rattle.witness.specs.Plans.{At, Halted, given}
use Rattle.witness.proofs.Going.{Grows, grows_not, grows_doing, halted_on}
use Rattle.witness.proofs.Along.{grows_either, grows_held, grows_along}

module _ (s : State) where
  pub grows_to : (v w : Work) (p y r z : ℕ) → Grows v w → Grows v (taking_to s p y r z w)
  grows_to v w p y r z g = grows_along v w p p (shortest_path s p y) r z g

  pub grows_given : (v w : Work) (p u c r y : ℕ) → Grows v w → Grows v (given s p u c r y w)
  grows_given v w p u c r y g = grows_doing v (taking_to s p u grant_right c w) (granting p c r y) (grows_to v w p u grant_right c g)

  pub grows_left : (v w : Work) (p u c q r y : ℕ) → Grows v w → Grows v (taking_unless_held q c r y (given s p u c r y w))
  grows_left v w p u c q r y g = grows_held v (given s p u c r y w) q c r y (grows_given v w p u c r y g)

  pub grows_over : (v w : Work) (p q r y : ℕ) → Grows v w → Grows v (over_bridge s p q r y w)
  unfolding over_bridge
  grows_over v w p q r y g =
      let u = near_end s p q in
      let t = far_end s q u in
      let c = w.state.size in
      let made = grows_doing v w (creating q) g in
      grows_either v _ _ (take_path s q p) (grows_to v w q p r y g)
      (grows_either v _ _ (take_path s p q) (grows_left v (doing (creating q) w) p q c q r y made)
      (grows_either v _ _ (can_grant s u t) (grows_to v (given s p u t r y w) q t r y (grows_given v w p u t r y g))
      (grows_left v (given s q t u grant_right c (doing (creating q) w)) p u c q r y (grows_given v (doing (creating q) w) q t u grant_right c made))))

  pub grows_row : (v w : Work) (p : ℕ) (row : List ℕ) (r y : ℕ) → Grows v w → Grows v (over_row s p row r y w)
  unfolding over_row
  grows_row v w p [] r y g = g
  grows_row v w p (q ∷ more) r y g = grows_row v (over_bridge s p q r y w) q more r y (grows_over v w p q r y g)

  pub grows_handed : (v w : Work) (p x r y : ℕ) → Grows v w → Grows v (handed_to s p x r y w)
  grows_handed v w p x r y g =
      grows_either v w _ (eqb p x) g (grows_given v w p (last_holder s p x) x r y g)

-- The right has come to `at`, and what is left of the row leads to the goal.
pub record Over (b : State) (r y : ℕ) (goal : Work) (plan : Plan) (was out : List ℕ) (at : ℕ) (rest : List ℕ) : Type 0 where
  pub so_far : Work
  pub stands : At b so_far plan was out
  pub leads : over_row b at rest r y so_far ≡ goal

module _ (b : State) (r y : ℕ) (goal : Work) (plan : Plan) (was out : List ℕ) (at : ℕ) where
  further : (next : ℕ) (more : List ℕ) (i : Over b r y goal plan was out at (next ∷ more)) → over_row b next more r y (over_bridge b at next r y i.so_far) ≡ goal
  unfolding over_row
  further next more i = i.leads

  pub over_more : (next : ℕ) (more : List ℕ) (i : Over b r y goal plan was out at (next ∷ more)) → (plan' : Plan) (out' : List ℕ) →
      At b (over_bridge b at next r y i.so_far) plan' was out' → Over b r y goal plan' was out' next more
  over_more next more i plan' out' a = record { so_far = over_bridge b at next r y i.so_far; stands = a; leads = further next more i }

  pub over_halted : (next : ℕ) (more : List ℕ) (i : Over b r y goal plan was out at (next ∷ more)) →
      (halt : Halt) → Halted halt b (length was) (over_bridge b at next r y i.so_far) → Halted halt b (length was) goal
  over_halted next more i halt halted =
      let v = over_bridge b at next r y i.so_far in
      subst (Halted halt b (length was)) (further next more i) (halted_on halt b (length was) v _ (grows_row b v v next more r y (grows_not v)) halted)

  pub over_end : (rest : List ℕ) (i : Over b r y goal plan was out at rest) → rest ≡ [] → i.so_far ≡ goal
  unfolding over_row
  over_end rest i e = sym (ap (λ t. over_row b at t r y i.so_far) e) ∙ i.leads

-- Which of the four ways it is.
module _ (s : State) (p q r y : ℕ) (w : Work) where
  pub over_fetched : true ≡ take_path s q p → over_bridge s p q r y w ≡ fetched s p q r y w
  unfolding over_bridge
  over_fetched a = cond-true (take_path s q p) _ _ (sym a)

  module _ (unled : false ≡ take_path s q p) where
    pub over_left : true ≡ take_path s p q → over_bridge s p q r y w ≡ left s p q r y w.state.size w
    unfolding over_bridge
    over_left a = cond-false (take_path s q p) _ _ (sym unled) ∙ cond-true (take_path s p q) _ _ (sym a)

    module _ (neither : false ≡ take_path s p q) (u v : ℕ) (eu : u ≡ near_end s p q) (ev : v ≡ far_end s q u) where
      met : over_bridge s p q r y w ≡ cond (can_grant s u v) (passed s p q r y u v w) (asked s p q r y u v w.state.size w)
      unfolding over_bridge
      met =
          cond-false (take_path s q p) _ _ (sym unled) ∙ cond-false (take_path s p q) _ _ (sym neither)
          ∙ ap₂ (λ m n. cond (can_grant s m n) (passed s p q r y m n w) (asked s p q r y m n w.state.size w)) (sym eu) (sym (ev ∙ ap (far_end s q) eu))

      pub over_passed : true ≡ can_grant s u v → over_bridge s p q r y w ≡ passed s p q r y u v w
      over_passed g = met ∙ sym (ap (λ c. cond c (passed s p q r y u v w) (asked s p q r y u v w.state.size w)) g)

      pub over_asked : false ≡ can_grant s u v → over_bridge s p q r y w ≡ asked s p q r y u v w.state.size w
      over_asked g = met ∙ sym (ap (λ c. cond c (passed s p q r y u v w) (asked s p q r y u v w.state.size w)) g)
