-- The exact witness, rule by rule: work is led from one state to another by rules that are applicable when their turn comes, lose nothing, and
-- reach a goal. Bounds can be widened, one piece of work can follow another, and a single rule is one.
use Rattle.std.proofs.Common.{◌≡◌, ℕ, suc, ◌+◌, ◌≤◌, Bool, false, T, List, [], ◌∷◌, ◌++◌, length, sym, refl, ap, ◌∙◌, subst, append_assoc, append-nil, arith, lt→ltb, length-append}
use Rattle.model.specs.State.{State, WellFormed, is_subject, is_vertex, take_right, grant_right}
use Rattle.model.specs.Bit.{bit}
use Rattle.model.specs.Rules.{applicable, applied, step, after, all_applicable}
use Rattle.model.specs.Restricted.{actor, all_by}
use Rattle.model.specs.Spans.{can_take, take_path}
use Rattle.model.specs.Plans.{Grown, Has, creation, creations}
use Rattle.model.specs.Exact.{Work, doing, taking, granting, creating, taking_unless_held, taking_along, taking_to}
use Rattle.model.specs.declared.Rule.{Rule}
use Rattle.model.specs.declared.Rule.TheVariants.{Take, Grant, Create, Remove}
use Rattle.model.proofs.Tests.{both}
use Rattle.model.proofs.Readings.{subject_vertex}
use Rattle.model.proofs.Steps.{given_new, created_new, step_keeps}
use Rattle.model.proofs.Grown.{grown_refl, grown_trans, applied_grown}
use Rattle.model.proofs.Plan.{step_applied, after_append, applicable_append, by_append, creations_append}
use Rattle.model.proofs.Taking.{Acts}
use Rattle.model.proofs.ExactChoices.{either_way, Leads, arrived, onward, shortest_leads, shortest_short}

-- A row of rules adds at most as many vertices as it creates.
applied_creates : (s : State) (a : Rule) → (applied s a).size ≤ s.size + creation a
unfolding creation
applied_creates s (Take t) = omega arith
applied_creates s (Grant g) = omega arith
applied_creates s (Create c) = omega arith
applied_creates s (Remove d) = omega arith

pub after_size : (s : State) (rules : List Rule) → (after s rules).size ≤ s.size + creations rules
unfolding after creations
after_size s [] = omega arith
after_size s (a ∷ more) =
    let h : (step s a).size ≤ s.size + creation a = step_keeps (λ d. d.size ≤ s.size + creation a) s a (λ _. applied_creates s a) (omega arith) in
    omega (arith, after_size (step s a) more)

-- From work w to work v: by at most `most` more rules applied by those of `by`, which create at most `fresh` vertices, lose nothing, and reach the goal.
pub record Led (by : ℕ → Bool) (w : Work) (most fresh : ℕ) (Goal : State → Type 0) (v : Work) : Type 0 where
  pub more : List Rule
  pub rules : v.rules ≡ w.rules ++ more
  pub state : after w.state more ≡ v.state
  pub applicable : T (all_applicable w.state more)
  pub applied : T (all_by by more)
  pub short : length more ≤ most
  pub few : creations more ≤ fresh
  pub grown : Grown w.state v.state
  pub reached : Goal v.state

module _ {by : ℕ → Bool} {w v : Work} {k j : ℕ} {G : State → Type 0} where
  pub widen : (k' j' : ℕ) → k ≤ k' → j ≤ j' → Led by w k j G v → Led by w k' j' G v
  widen k' j' h i l =
      record {
        more = l.more;
        rules = l.rules;
        state = l.state;
        applicable = l.applicable;
        applied = l.applied;
        short = omega arith;
        few = omega arith;
        grown = l.grown;
        reached = l.reached;
      }

  -- One piece of work after another.
  pub followed : {k' j' : ℕ} {H : State → Type 0} {u : Work} → Led by w k j G v → (Grown w.state v.state → G v.state → Led by v k' j' H u) →
      Led by w (k + k') (j + j') H u
  followed {k'} {j'} {H} {u} l f = join (f l.grown l.reached)
    where
      join : Led by v k' j' H u → Led by w (k + k') (j + j') H u
      join m =
          record {
            more = l.more ++ m.more;
            rules = m.rules ∙ ap (λ list. list ++ m.more) l.rules ∙ append_assoc w.rules l.more m.more;
            state = after_append w.state l.more m.more ∙ ap (λ d. after d m.more) l.state ∙ m.state;
            applicable =
                applicable_append w.state l.more m.more l.applicable
                (subst (λ d. T (all_applicable d m.more)) (sym l.state) m.applicable);
            applied = by_append by l.more m.more l.applied m.applied;
            short = omega (arith, length-append l.more m.more);
            few = omega (arith, creations_append l.more m.more);
            grown = grown_trans l.grown m.grown;
            reached = m.reached;
          }

  -- It adds at most as many vertices as it creates.
  pub led_size : Led by w k j G v → v.state.size ≤ w.state.size + j
  led_size l = omega (arith, after_size w.state l.more, ap (λ d. d.size) l.state)

-- Nothing more.
pub idle : (by : ℕ → Bool) (w : Work) (G : State → Type 0) → WellFormed w.state → G w.state → Led by w 0 0 G w
unfolding after all_applicable all_by creations
idle by w G f g =
    record {
      more = [];
      rules = sym (append-nil w.rules);
      state = refl;
      applicable = tt;
      applied = tt;
      short = omega arith;
      few = omega arith;
      grown = grown_refl f;
      reached = g;
    }

-- One rule.
pub single : (by : ℕ → Bool) (w : Work) (a : Rule) (G : State → Type 0) → T (by (actor a)) → T (applicable w.state a) →
    Grown w.state (applied w.state a) → G (applied w.state a) → Led by w 1 (creation a) G (doing a w)
unfolding after all_applicable all_by creations
single by w a G b t g r =
    record {
      more = a ∷ [];
      rules = refl;
      state = step_applied w.state a t;
      applicable = both (applicable w.state a) _ t tt;
      applied = both (by (actor a)) _ b tt;
      short = omega arith;
      few = omega arith;
      grown = g;
      reached = r;
    }

-- Single rules of one who acts in the first state b, in work whose state is grown from it.
module _ {by : ℕ → Bool} {b : State} {p : ℕ} (a : Acts by b p) (w : Work) (g : Grown b w.state) where
  pub acts : T (is_subject w.state p)
  acts = g.subjects p a.subject

  vertex : (x r y : ℕ) → T (w.state.has x r y) → T (is_vertex w.state y)
  vertex x r y t = lt→ltb y w.state.size (g.well_formed.target x r y t)

  -- Its takes and grants may be applied if the rights that they use are held.
  pub may_take : (y r z : ℕ) → T (w.state.has p take_right y) → T (w.state.has y r z) → T (applicable w.state (taking p y r z))
  may_take y r z t h = both _ _ acts (both _ _ (vertex p take_right y t) (both _ _ (vertex y r z h) (both _ _ t h)))

  pub may_grant : (y r z : ℕ) → T (w.state.has p grant_right y) → T (w.state.has p r z) → T (applicable w.state (granting p y r z))
  may_grant y r z t h = both _ _ acts (both _ _ (vertex p grant_right y t) (both _ _ (vertex p r z h) (both _ _ t h)))

  -- p takes r to z from y, unless p has it by now: it must be able to only if it hasn't.
  pub take_one : (y r z : ℕ) → T (w.state.has y r z) → ((T (w.state.has p r z) → ⊥) → T (w.state.has p take_right y)) →
      Led by w 1 0 (Has p r z) (taking_unless_held p y r z w)
  unfolding creation
  take_one y r z h can =
      either_way (Led by w 1 0 (Has p r z)) (w.state.has p r z) w (doing (taking p y r z) w)
      (λ held. widen 1 0 (omega arith) (omega arith) (idle by w (Has p r z) g.well_formed held)) (λ lacks.
      let may = may_take y r z (can lacks) h in
      single by w (taking p y r z) (Has p r z) a.allowed may (applied_grown w.state g.well_formed (taking p y r z) tt may) (given_new p r z w.state))

  -- p grants r to z to y.
  pub grant_one : (y r z : ℕ) → T (w.state.has p grant_right y) → T (w.state.has p r z) → Led by w 1 0 (Has y r z) (doing (granting p y r z) w)
  unfolding creation
  grant_one y r z t h =
      let may = may_grant y r z t h in
      single by w (granting p y r z) (Has y r z) a.allowed may (applied_grown w.state g.well_formed (granting p y r z) tt may) (given_new y r z w.state)

  -- p creates an object, the next vertex, and can take from it and grant to it.
  pub create_one : Led by w 1 1 (λ d. T (d.has p take_right w.state.size) × T (d.has p grant_right w.state.size)) (doing (creating p) w)
  unfolding creation bit
  create_one =
      single by w (creating p) (λ d. T (d.has p take_right w.state.size) × T (d.has p grant_right w.state.size)) a.allowed acts
      (applied_grown w.state g.well_formed (creating p) tt acts) (created_new p false 3 w.state take_right tt, created_new p false 3 w.state grant_right tt)

-- What x has and p hasn't, p can take from x: p has take to x, or is x.
abbrev pub Open : State → ℕ → ℕ → Type 0
Open d p x = (r z : ℕ) → T (d.has x r z) → (T (d.has p r z) → ⊥) → T (d.has p take_right x)

module _ (by : ℕ → Bool) (b : State) (p : ℕ) (a : Acts by b p) (r z : ℕ) where
  -- Along a path of b, from x, of which p can take by now, to y, which has the right.
  pub take_along : {x y : ℕ} {list : List ℕ} (w : Work) → Grown b w.state → Open w.state p x → T (w.state.has y r z) →
      Leads b.size (can_take b) x list y → Led by w (suc (length list)) 0 (Has p r z) (taking_along p x list r z w)
  unfolding taking_along
  take_along {x} w g can h arrived = take_one a w g x r z h (can r z h)
  take_along {x} {y} w g can h (onward {z = v} {more = more} l e path) =
      either_way (Led by w (suc (suc (length more))) 0 (Has p r z)) (w.state.has p r z) w _
      (λ held. widen _ _ (omega arith) (omega arith) (idle by w (Has p r z) g.well_formed held)) (λ _.
      let t = g.rights x take_right v e in
      widen _ _ (omega arith) (omega arith)
      (followed (take_one a w g x take_right v t (can take_right v t)) (λ i u.
      take_along (taking_unless_held p x take_right v w) (grown_trans g i) (λ _ _ _ _. u) (i.rights y r z h) path)))

  -- Along the shortest path: at most n rules.
  pub take_to : (y : ℕ) (w : Work) → Grown b w.state → T (w.state.has y r z) → T (take_path b p y) → Led by w b.size 0 (Has p r z) (taking_to b p y r z w)
  unfolding take_path
  take_to y w g h t =
      let below = subject_vertex b p a.subject in
      let short = shortest_short b.size (can_take b) p y below t in
      widen _ _ (omega arith) (omega arith)
      (take_along w g (λ _ _ held lacks. absurd (lacks held)) h (shortest_leads b.size (can_take b) p y below t))
