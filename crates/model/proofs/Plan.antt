-- The laws of plans: bounds can be widened, one plan can follow another, and a single rule is a plan.
use Rattle.std.proofs.Common.{◌≡◌, ℕ, ◌+◌, ◌≤◌, Bool, false, cond, T, List, [], ◌∷◌, ◌++◌, sym, refl, ap, ◌∙◌, subst, inl, inr, add_assoc, zero-add, arith, lt→ltb, length-append}
use Rattle.model.specs.State.{State, WellFormed, is_subject, is_vertex, take_right, grant_right}
use Rattle.model.specs.Bit.{bit}
use Rattle.model.specs.Rules.{applicable, applied, step, after, all_applicable}
use Rattle.model.specs.Restricted.{actor, all_by}
use Rattle.model.specs.Plans.{Grown, Plan, Has, creation, creations}
use Rattle.model.specs.declared.Take.{Take as TakeRule}
use Rattle.model.specs.declared.Grant.{Grant as GrantRule}
use Rattle.model.specs.declared.Create.{Create as CreateRule}
use Rattle.model.specs.declared.Rule.{Rule}
use Rattle.model.specs.declared.Rule.TheVariants.{Take, Grant, Create}
use Rattle.model.proofs.Tests.{both, parts, decide, is_true}
use Rattle.model.proofs.Steps.{given_new, created_new}
use Rattle.model.proofs.Grown.{grown_refl, grown_trans, applied_grown}

pub step_applied : (s : State) (a : Rule) → T (applicable s a) → step s a ≡ applied s a
step_applied s a t = ap (λ c. cond c (applied s a) s) (is_true (applicable s a) t)

pub after_append : (s : State) (xs ys : List Rule) → after s (xs ++ ys) ≡ after (after s xs) ys
unfolding after
after_append s [] ys = refl
after_append s (a ∷ xs) ys = after_append (step s a) xs ys

pub applicable_append : (s : State) (xs ys : List Rule) → T (all_applicable s xs) → T (all_applicable (after s xs) ys) → T (all_applicable s (xs ++ ys))
unfolding after all_applicable
applicable_append s [] ys t u = u
applicable_append s (a ∷ xs) ys t u =
    let h = parts (applicable s a) (all_applicable (applied s a) xs) t in
    both (applicable s a) _ h.0 (applicable_append (applied s a) xs ys h.1 (subst (λ c. T (all_applicable (after c xs) ys)) (step_applied s a h.0) u))

pub by_append : (by : ℕ → Bool) (xs ys : List Rule) → T (all_by by xs) → T (all_by by ys) → T (all_by by (xs ++ ys))
unfolding all_by
by_append by [] ys t u = u
by_append by (a ∷ xs) ys t u =
    let h = parts (by (actor a)) (all_by by xs) t in
    both (by (actor a)) _ h.0 (by_append by xs ys h.1 u)

pub creations_append : (xs ys : List Rule) → creations (xs ++ ys) ≡ creations xs + creations ys
unfolding creations
creations_append [] ys = sym (zero-add (creations ys))
creations_append (a ∷ xs) ys = ap (λ n. creation a + n) (creations_append xs ys) ∙ sym (add_assoc (creation a) (creations xs) (creations ys))

module _ {by : ℕ → Bool} {s : State} {k j : ℕ} {G : State → Type 0} where
  -- A plan within narrow bounds is one within wider ones.
  pub widen : (k' j' : ℕ) → k ≤ k' → j ≤ j' → Plan by s k j G → Plan by s k' j' G
  widen k' j' h i p =
      record {
        rules = p.rules;
        applicable = p.applicable;
        applied = p.applied;
        short = omega arith;
        few = omega arith;
        grown = p.grown;
        reached = p.reached;
      }

  -- A plan reaches whatever follows from its goal and from growth.
  pub reaching : {H : State → Type 0} → ((d : State) → Grown s d → G d → H d) → Plan by s k j G → Plan by s k j H
  reaching f p =
      record {
        rules = p.rules;
        applicable = p.applicable;
        applied = p.applied;
        short = p.short;
        few = p.few;
        grown = p.grown;
        reached = f (after s p.rules) p.grown p.reached;
      }

  -- One plan after another.
  pub followed : {k' j' : ℕ} {H : State → Type 0} → Plan by s k j G → ((d : State) → Grown s d → G d → Plan by d k' j' H) → Plan by s (k + k') (j + j') H
  followed {k'} {j'} {H} p f = join (f (after s p.rules) p.grown p.reached)
    where
      join : Plan by (after s p.rules) k' j' H → Plan by s (k + k') (j + j') H
      join q =
          let e = sym (after_append s p.rules q.rules) in
          record {
            rules = p.rules ++ q.rules;
            applicable = applicable_append s p.rules q.rules p.applicable q.applicable;
            applied = by_append by p.rules q.rules p.applied q.applied;
            short = omega (arith, length-append p.rules q.rules);
            few = omega (arith, creations_append p.rules q.rules);
            grown = subst (λ d. Grown s d) e (grown_trans p.grown q.grown);
            reached = subst H e q.reached;
          }

-- No rule at all.
pub idle : (by : ℕ → Bool) (s : State) (G : State → Type 0) → WellFormed s → G s → Plan by s 0 0 G
unfolding after all_applicable all_by creations
idle by s G w g =
    record { rules = []; applicable = tt; applied = tt; short = omega arith; few = omega arith; grown = grown_refl w; reached = g }

-- One rule.
pub single : (by : ℕ → Bool) (s : State) (a : Rule) (G : State → Type 0) → T (by (actor a)) → T (applicable s a) → Grown s (applied s a) → G (applied s a) →
    Plan by s 1 (creation a) G
unfolding after all_applicable all_by creations
single by s a G b t g r =
    let e = sym (step_applied s a t) in
    record {
      rules = a ∷ [];
      applicable = both (applicable s a) _ t tt;
      applied = both (by (actor a)) _ b tt;
      short = omega arith;
      few = omega arith;
      grown = subst (λ d. Grown s d) e g;
      reached = subst G e r;
    }

module _ (by : ℕ → Bool) (s : State) (w : WellFormed s) (p : ℕ) (b : T (by p)) (acts : T (is_subject s p)) where
  vertex : (x r y : ℕ) → T (s.has x r y) → T (is_vertex s y)
  vertex x r y t = lt→ltb y s.size (w.target x r y t)

  -- p takes r to z from y.
  pub takes : (y r z : ℕ) → T (s.has p take_right y) → T (s.has y r z) → Plan by s 1 0 (Has p r z)
  unfolding creation
  takes y r z t h =
      let a : TakeRule = record { who = p; from = y; right = r; to = z } in
      let may : T (applicable s (Take a)) = both _ _ acts (both _ _ (vertex p take_right y t) (both _ _ (vertex y r z h) (both _ _ t h))) in
      single by s (Take a) (Has p r z) b may (applied_grown s w (Take a) tt may) (given_new p r z s)

  -- The same, unless p has it by now.
  pub takes_unless_held : (y r z : ℕ) → T (s.has p take_right y) → T (s.has y r z) → Plan by s 1 0 (Has p r z)
  takes_unless_held y r z t h =
      elim (decide (s.has p r z)) [
        | inl held ↦ widen 1 0 (omega arith) (omega arith) (idle by s (Has p r z) w held)
        | inr _ ↦ takes y r z t h
      ]

  -- p grants r to z to y.
  pub grants : (y r z : ℕ) → T (s.has p grant_right y) → T (s.has p r z) → Plan by s 1 0 (Has y r z)
  unfolding creation
  grants y r z t h =
      let a : GrantRule = record { who = p; into = y; right = r; to = z } in
      let may : T (applicable s (Grant a)) = both _ _ acts (both _ _ (vertex p grant_right y t) (both _ _ (vertex p r z h) (both _ _ t h))) in
      single by s (Grant a) (Has y r z) b may (applied_grown s w (Grant a) tt may) (given_new y r z s)

  -- p creates an object, the next vertex, and can take from it and grant to it.
  pub creates : Plan by s 1 1 (λ d. T (d.has p take_right s.size) × T (d.has p grant_right s.size))
  unfolding creation bit
  creates =
      let a : CreateRule = record { who = p; subject = false; rights = 3 } in
      single by s (Create a) (λ d. T (d.has p take_right s.size) × T (d.has p grant_right s.size)) b acts (applied_grown s w (Create a) tt acts)
      (created_new p false 3 s take_right tt, created_new p false 3 s grant_right tt)
