-- A state grown from another has all its vertices, subjects and rights. Growth is a preorder; a rule that takes no right away is growth; and in a
-- grown state more can be got and shared.
use Rattle.std.proofs.Common.{ℕ, ◌≤◌, Bool, T, inl, inr, arith}
use Rattle.model.specs.State.{State, WellFormed, is_subject, is_vertex, take_right, grant_right}
use Rattle.model.specs.Spans.{TakePath, Joins, ahead, back, over, under, Bridge, Grants, itself, through}
use Rattle.model.specs.Sharing.{can_get, CanGet, can_share, CanShare}
use Rattle.model.specs.Rules.{applicable, applied, step}
use Rattle.model.specs.Restricted.{restricted, adds}
use Rattle.model.specs.Plans.{Grown}
use Rattle.model.specs.declared.Rule.{Rule}
use Rattle.model.specs.declared.Rule.TheVariants.{Take, Grant, Create, Remove}
use Rattle.model.specs.declared.Remove.{Remove as Removal}
use Rattle.model.proofs.Tests.{both, parts}
use Rattle.model.proofs.Stars.{map_steps}
use Rattle.model.proofs.Readings.{can_get-to, can_get-from, can_share-to, can_share-from}
use Rattle.model.proofs.Steps.{given_had, removed_has, created_had, created_subject_had, step_keeps, applied_well}

pub grown_refl : {s : State} → WellFormed s → Grown s s
grown_refl w = record { well_formed = w; vertices = omega arith; subjects = λ p t. t; rights = λ p r q t. t }

pub grown_trans : {b c d : State} → Grown b c → Grown c d → Grown b d
grown_trans g h =
    record {
      well_formed = h.well_formed;
      vertices = omega arith;
      subjects = λ p t. h.subjects p (g.subjects p t);
      rights = λ p r q t. h.rights p r q (g.rights p r q t);
    }

module _ (s t : State) (g : Grown s t) where
  path_grown : {p q : ℕ} → TakePath s p q → TakePath t p q
  path_grown v = map_steps (λ a b h. g.rights a take_right b h) v

  joins_grown : (p q : ℕ) → Joins s p q → Joins t p q
  joins_grown p q (ahead w) = ahead (path_grown w)
  joins_grown p q (back w) = back (path_grown w)
  joins_grown p q (over u v w z h) = over u v (path_grown w) (path_grown z) (g.rights u grant_right v h)
  joins_grown p q (under u v w z h) = under u v (path_grown w) (path_grown z) (g.rights v grant_right u h)

  bridge_grown : (p q : ℕ) → Bridge s p q → Bridge t p q
  bridge_grown p q b = record { one = g.subjects p b.one; other = g.subjects q b.other; joins = joins_grown p q b.joins }

  grants_grown : (p x : ℕ) → Grants s p x → Grants t p x
  grants_grown p x (itself e) = itself e
  grants_grown p x (through u w h) = through u (path_grown w) (g.rights u grant_right x h)

  can_get-grown : (x r y : ℕ) → CanGet s x r y → CanGet t x r y
  can_get-grown x r y k =
      record {
        holder = k.holder;
        first = k.first;
        last = k.last;
        holds = g.rights k.holder r y k.holds;
        initial = record { acts = g.subjects k.first k.initial.acts; grants = grants_grown k.first x k.initial.grants };
        terminal = record { acts = g.subjects k.last k.terminal.acts; takes = path_grown k.terminal.takes };
        joined = map_steps bridge_grown k.joined;
      }

  can_share-grown : (x r y : ℕ) → CanShare s x r y → CanShare t x r y
  can_share-grown x r y (inl h) = inl (g.rights x r y h)
  can_share-grown x r y (inr k) = inr (can_get-grown x r y k)

  -- The same of the tests.
  pub grown_gets : (x r y : ℕ) → T (can_get s x r y) → T (can_get t x r y)
  grown_gets x r y h = can_get-from t g.well_formed x r y (can_get-grown x r y (can_get-to s x r y h))

  pub grown_shares : (x r y : ℕ) → T (can_share s x r y) → T (can_share t x r y)
  grown_shares x r y h = can_share-from t g.well_formed x r y (can_share-grown x r y (can_share-to s x r y h))

pub applied_size : (s : State) (a : Rule) → s.size ≤ (applied s a).size
applied_size s (Take t) = omega arith
applied_size s (Grant g) = omega arith
applied_size s (Create c) = omega arith
applied_size s (Remove d) = omega arith

module _ (s : State) (wf : WellFormed s) where
  -- A rule that takes no right away is growth.
  pub applied_grown : (a : Rule) → T (adds a) → T (applicable s a) → Grown s (applied s a)
  applied_grown a h t =
      record { well_formed = applied_well s a t wf; vertices = applied_size s a; subjects = acts a h; rights = has a h }
    where
      acts : (a : Rule) → T (adds a) → (p : ℕ) → T (is_subject s p) → T (is_subject (applied s a) p)
      acts (Take t) h p u = u
      acts (Grant g) h p u = u
      acts (Create c) h p u = created_subject_had c.who c.subject c.rights s p u
      acts (Remove d) h p u = absurd h

      has : (a : Rule) → T (adds a) → (p k q : ℕ) → T (s.has p k q) → T ((applied s a).has p k q)
      has (Take t) h = given_had t.who t.right t.to s
      has (Grant g) h = given_had g.into g.right g.to s
      has (Create c) h = created_had c.who c.subject c.rights s wf
      has (Remove d) h = absurd h

  pub step_grown : (a : Rule) → T (adds a) → Grown s (step s a)
  step_grown a h = step_keeps (λ t. Grown s t) s a (applied_grown a h) (grown_refl wf)

  -- A state is grown from what it is after a removal, and from the state in which some of its subjects are objects.
  pub removal_grown : (d : Removal) → Grown (step s (Remove d)) s
  removal_grown d =
      step_keeps (λ t. Grown t s) s (Remove d)
      (λ _. record { well_formed = wf; vertices = omega arith; subjects = λ p a. a; rights = removed_has d.who d.right d.to s }) (grown_refl wf)

  pub restricted_grown : (S : ℕ → Bool) → Grown (restricted S s) s
  restricted_grown S =
      record {
        well_formed = wf;
        vertices = omega arith;
        subjects = λ p a.
            let k = parts (is_vertex s p) _ a in both (is_vertex s p) (s.subject p) k.0 (parts (S p) (s.subject p) k.1).1;
        rights = λ p k q t. t;
      }

pub restricted_well : (S : ℕ → Bool) (s : State) → WellFormed s → WellFormed (restricted S s)
restricted_well S s wf = record { holder = wf.holder; target = wf.target }
