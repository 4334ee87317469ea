-- Connected goes both ways; and an object to which nobody has grant comes to have only what it has.
use Rattle.std.proofs.Common.{◌≡◌, ℕ, false, T, subst, inl, inr}
use Rattle.model.specs.State.{State, WellFormed, is_subject}
use Rattle.model.specs.Spans.{can_grant, Joins, ahead, back, over, under, Bridge, connected, Connected, Grants, itself, through}
use Rattle.model.specs.Sharing.{can_share, CanShare}
use Rattle.model.proofs.Tests.{same, from_false}
use Rattle.model.proofs.Stars.{reverse}
use Rattle.model.proofs.Readings.{connected_to, connected_from, can_share-to, can_share-from}

module _ (s : State) where
  turn_joins : (p q : ℕ) → Joins s p q → Joins s q p
  turn_joins p q (ahead w) = back w
  turn_joins p q (back w) = ahead w
  turn_joins p q (over u v w z g) = under v u z w g
  turn_joins p q (under u v w z g) = over v u z w g

  pub turn_bridge : (p q : ℕ) → Bridge s p q → Bridge s q p
  turn_bridge p q b = record { one = b.other; other = b.one; joins = turn_joins p q b.joins }

  pub connected_turns : {p q : ℕ} → Connected s p q → Connected s q p
  connected_turns v = reverse turn_bridge v

  pub connected_both_ways : WellFormed s → (p q : ℕ) → connected s p q ≡ connected s q p
  connected_both_ways wf p q = same _ _ (turned p q) (turned q p)
    where
      turned : (a b : ℕ) → T (connected s a b) → T (connected s b a)
      turned a b t = connected_from s wf b a (connected_turns (connected_to s a b t))

  -- Nobody spans initially to an object to which nobody has grant.
  ungranted : (x p : ℕ) → (T (is_subject s x) → ⊥) → ((u : ℕ) → T (can_grant s u x) → ⊥) → T (is_subject s p) → Grants s p x → ⊥
  ungranted x p object none a (itself e) = object (subst (λ z. T (is_subject s z)) e a)
  ungranted x p object none a (through u w g) = none u g

  pub passive_object : WellFormed s → (x r y : ℕ) → is_subject s x ≡ false → ((p : ℕ) → can_grant s p x ≡ false) → can_share s x r y ≡ s.has x r y
  passive_object wf x r y object none = same _ _ (λ t. held (can_share-to s x r y t)) (λ t. can_share-from s wf x r y (inl t))
    where
      held : CanShare s x r y → T (s.has x r y)
      held (inl t) = t
      held (inr g) = absurd (ungranted x g.first (from_false _ object) (λ u. from_false _ (none u)) g.initial.acts g.initial.grants)
