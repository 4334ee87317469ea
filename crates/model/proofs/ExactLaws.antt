-- The exact witness is a witness: what is proved of it, law by law.
use Rattle.std.proofs.Common.{◌≡◌, ℕ, ◌-◌, ◌*◌, ◌<◌, ◌≤◌, Bool, false, cond, T, List, [], ◌++◌, length, sym, refl, ap, ◌∙◌, subst, inl, inr, arith}
use Rattle.model.specs.State.{State, WellFormed, is_subject}
use Rattle.model.specs.Rules.{after, all_applicable}
use Rattle.model.specs.Restricted.{all_by}
use Rattle.model.specs.Sharing.{can_get, can_share}
use Rattle.model.specs.Plans.{Has, creations}
use Rattle.model.specs.Promise.{Witness, longest_witness_len}
use Rattle.model.specs.Exact.{Work, exact_work, exact_witness}
use Rattle.model.specs.Exactly.{ExactIsWitness}
use Rattle.model.specs.declared.Rule.{Rule}
use Rattle.model.proofs.Tests.{cases, is_true, from_false}
use Rattle.model.proofs.Plan.{creations_append}
use Rattle.model.proofs.Witnesses.{longest, longest_bound, some_vertex}
use Rattle.model.proofs.ExactChoices.{either_way}
use Rattle.model.proofs.ExactSteps.{Led, after_size}
use Rattle.model.proofs.ExactWitness.{exact_led}

module _ {by : ℕ → Bool} {s : State} {x r y : ℕ} {v : Work} (l : Led by (record { state = s; rules = [] }) (longest s.size) (s.size - 1) (Has x r y) v) where
  -- Work that was led from the state itself comes to where its rules lead, and they are a witness.
  led_after : after s v.rules ≡ v.state
  led_after = subst (λ rules. after s rules ≡ v.state) (sym l.rules) l.state

  led_witness : 0 < s.size → Witness by s x r y
  led_witness pos =
      record {
        rules = v.rules;
        applicable = subst (λ rules. T (all_applicable s rules)) (sym l.rules) l.applicable;
        applied = subst (λ rules. T (all_by by rules)) (sym l.rules) l.applied;
        short = omega (arith, ap length l.rules, longest_bound s.size);
        few = omega (arith, ap creations l.rules);
        brings = subst (λ d. T (d.has x r y)) (sym led_after) l.reached;
      }

-- Without a rule, where x has it.
idle_witness : (by : ℕ → Bool) (s : State) (x r y : ℕ) → 0 < s.size → T (s.has x r y) → Witness by s x r y
unfolding after all_applicable all_by creations
idle_witness by s x r y pos h =
    record { rules = []; applicable = tt; applied = tt; short = omega arith; few = omega arith; brings = h }

-- No rules where x has the right; else those of the work.
module _ (s : State) (x r y : ℕ) where
  pub exact_none : T (s.has x r y) → exact_witness s x r y ≡ []
  unfolding exact_witness
  exact_none h = ap {B = List Rule} (λ c. cond c [] (exact_work s x r y).rules) (is_true (s.has x r y) h)

  pub exact_rules : s.has x r y ≡ false → exact_witness s x r y ≡ (exact_work s x r y).rules
  unfolding exact_witness
  exact_rules e = ap {B = List Rule} (λ c. cond c [] (exact_work s x r y).rules) e

-- A witness with these rules.
pub record WitnessBy (by : ℕ → Bool) (s : State) (x r y : ℕ) (rules : List Rule) : Type 0 where
  pub witness : Witness by s x r y
  pub is : witness.rules ≡ rules

module _ (s : State) (wf : WellFormed s) (x r y : ℕ) (t : T (can_share s x r y)) where
  can_get-law : (T (s.has x r y) → ⊥) → T (can_get s x r y)
  unfolding can_share
  can_get-law lacks = elim (cases (s.has x r y) _ t) [ inl h ↦ absurd (lacks h) | inr g ↦ g ]

  -- The work, where x hasn't the right.
  pub work_led :
      (T (s.has x r y) → ⊥) →
      Led (is_subject s) (record { state = s; rules = [] }) (longest s.size) (s.size - 1) (Has x r y) (exact_work s x r y)
  work_led lacks = exact_led s x r y (can_get-law lacks) (is_subject s) wf (λ p a. a)

  pub exact_witness-law : WitnessBy (is_subject s) s x r y (exact_witness s x r y)
  unfolding exact_witness idle_witness led_witness
  exact_witness-law =
      let pos = some_vertex s x r y wf t in
      either_way (WitnessBy (is_subject s) s x r y) (s.has x r y) [] (exact_work s x r y).rules
      (λ h. record { witness = idle_witness (is_subject s) s x r y pos h; is = refl })
      (λ lacks. record { witness = led_witness (work_led lacks) pos; is = refl })

  -- What a witness is, of this row:
  pub exact_applicable : T (all_applicable s (exact_witness s x r y))
  exact_applicable = subst (λ rules. T (all_applicable s rules)) exact_witness-law.is exact_witness-law.witness.applicable

  pub exact_by : T (all_by (is_subject s) (exact_witness s x r y))
  exact_by = subst (λ rules. T (all_by (is_subject s) rules)) exact_witness-law.is exact_witness-law.witness.applied

  pub exact_short : length (exact_witness s x r y) ≤ longest_witness_len s.size
  exact_short = subst (λ rules. length rules ≤ longest_witness_len s.size) exact_witness-law.is exact_witness-law.witness.short

  pub exact_few : creations (exact_witness s x r y) < s.size
  exact_few = subst (λ rules. creations rules < s.size) exact_witness-law.is exact_witness-law.witness.few

  pub exact_brings : T ((after s (exact_witness s x r y)).has x r y)
  exact_brings = subst (λ rules. T ((after s rules).has x r y)) exact_witness-law.is exact_witness-law.witness.brings

  -- It is empty only if x has the right;
  pub none_held : exact_witness s x r y ≡ [] → T (s.has x r y)
  unfolding after
  none_held e = subst (λ rules. T ((after s rules).has x r y)) e exact_brings

  -- if it hasn't, it leads to the state of the work;
  pub exact_state : s.has x r y ≡ false → after s (exact_witness s x r y) ≡ (exact_work s x r y).state
  exact_state e = ap (after s) (exact_rules s x r y e) ∙ led_after (work_led (from_false (s.has x r y) e))

  -- and on the way there are fewer than 2n vertices.
  pub exact_small : (done rest : List Rule) → done ++ rest ≡ exact_witness s x r y → (after s done).size < 2 * s.size
  exact_small done rest e = omega (arith, after_size s done, creations_append done rest, ap creations e, exact_few)

pub exact_is_witness : ExactIsWitness
exact_is_witness s wf x r y t =
    let w = exact_witness-law s wf x r y t in
    record {
      witness = w.witness;
      is = w.is;
      empty = record { to = exact_none s x r y; from = none_held s wf x r y t };
      worked = exact_state s wf x r y t;
      small = exact_small s wf x r y t;
    }
