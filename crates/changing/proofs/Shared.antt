-- What can be shared, by what was found.
use Rattle.std.proofs.Common.{◌≡◌, ℕ, ◌<◌, ◌≤◌, Bool, true, false, ◌&&◌, ◌||◌, T, sym, ap, ◌∙◌, subst, inl, inr, arith}
use Rattle.model.specs.State.{State, WellFormed, grant_right}
use Rattle.model.specs.Bounded.{only, some_below}
use Rattle.model.specs.Spans.{InitialSpan, Grants, itself, through}
use Rattle.model.specs.Sharing.{can_get, can_share, CanShare}
use Rattle.model.specs.Certificates.{out_of}
use Rattle.model.proofs.Tests.{same, is_false, some_both, both_from}
use Rattle.model.proofs.Readings.{subject_vertex, can_share-to}
use Rattle.model.proofs.Least.{get_by_out}
use Rattle.changing.specs.Reached.{of_some}
use Rattle.changing.proofs.Tested.{some_to, some_from}

-- What x, which is there and has it not, can come to have is what O has; what is not there comes to have nothing.
module _ (s : State) (wf : WellFormed s) (few : s.size < 256) (x r y : ℕ) where
  pub shared_by_out :
      (out : ℕ → Bool) → x < s.size → false ≡ s.has x r y → ((k : ℕ) → out k ≡ out_of s (only x) k) → of_some out (λ t z. s.has t r z) y ≡ can_share s x r y
  unfolding can_share
  shared_by_out out l lacks is =
      same _ _ to from ∙ sym (get_by_out s wf x r y l) ∙ ap (λ b. b || can_get s x r y) lacks
    where
      to : T (of_some out (λ t z. s.has t r z) y) → T (some_below s.size (λ t. out_of s (only x) t && s.has t r y))
      to t =
          let k = some_to out (λ p z. s.has p r z) y t in
          both_from s.size (out_of s (only x)) (λ p. s.has p r y) k.at (wf.holder k.at r y k.other) (subst T (is k.at) k.one) k.other

      from : T (some_below s.size (λ t. out_of s (only x) t && s.has t r y)) → T (of_some out (λ t z. s.has t r z) y)
      from t =
          let k = some_both s.size (out_of s (only x)) (λ p. s.has p r y) t in
          some_from out (λ p z. s.has p r z) y k.at (omega (arith, k.below)) (subst T (sym (is k.at)) k.one) k.other

  pub shared_past : s.size ≤ x → can_share s x r y ≡ false
  shared_past l = is_false _ (λ t. never (can_share-to s x r y t))
    where
      spans : (p : ℕ) → InitialSpan s p x → Grants s p x → ⊥
      spans p i (itself e) = let k = subject_vertex s p i.acts in omega arith
      spans p i (through u v g) = let k = wf.target u grant_right x g in omega arith

      never : CanShare s x r y → ⊥
      never (inl h) = let k = wf.holder x r y h in omega arith
      never (inr g) = spans g.first g.initial g.initial.grants

pub shared_held : (s : State) (x r y : ℕ) → true ≡ s.has x r y → true ≡ can_share s x r y
unfolding can_share
shared_held s x r y e = ap (λ b. b || can_get s x r y) e
