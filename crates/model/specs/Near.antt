-- Tests that come near can share, and a check of certificates that comes near the right one. Each is wrong.
use Rattle.std.specs.Prelude.{◌≡◌, ℕ, Bool, true, not, ◌&&◌, ◌||◌, T}
use Rattle.model.specs.State.{State, WellFormed, is_subject, take_right}
use Rattle.model.specs.Bounded.{some_below, all_below, implies, only}
use Rattle.model.specs.Spans.{take_path, connected, initial_span}
use Rattle.model.specs.Sharing.{can_share}
use Rattle.model.specs.Certificates.{Certificate, lacks, vertex_fits, take_fits}
use Rattle.model.specs.Certified.{Check}

-- Wrong: x follows its own take paths. It misses what is granted for it into an object.
unfoldable pub by_taking_alone : State → ℕ → ℕ → ℕ → Bool
by_taking_alone s x r y = s.has x r y || (is_subject s x && some_below s.size (λ h. take_path s x h && s.has h r y))

-- Wrong: every vertex applies rules, objects too.
unfoldable pub objects_acting : State → ℕ → ℕ → ℕ → Bool
objects_acting s x r y = can_share (record { size = s.size; subject = λ v. true; has = s.has }) x r y

-- Wrong: who has the right must hand it on. It misses that the right can be taken from a holder without its doing.
unfoldable pub given_by_holder : State → ℕ → ℕ → ℕ → Bool
given_by_holder s x r y =
    s.has x r y ||
    some_below s.size (λ h.
    (is_subject s h && s.has h r y) && some_below s.size (λ v. initial_span s v x && connected s v h))

-- Wrong: a check of certificates that looks at takes and not at grants.
unfoldable pub right_by_takes : Check
right_by_takes s X r Y k =
    all_below s.size (lacks s X r Y k) &&
    (all_below s.size (vertex_fits s X k) &&
    all_below s.size (λ v. all_below s.size (λ w. implies (s.has v take_right w) (take_fits k v w))))

-- A test is wrong of some state.
pub record Refuted (near : State → ℕ → ℕ → ℕ → Bool) : Type 0 where
  pub state : State
  pub x : ℕ
  pub r : ℕ
  pub y : ℕ
  pub well_formed : WellFormed state
  pub differs : near state x r y ≡ not (can_share state x r y)

-- A check passes a certificate for what can be shared.
pub record Fooled (check : Check) : Type 0 where
  pub state : State
  pub x : ℕ
  pub r : ℕ
  pub y : ℕ
  pub certificate : Certificate
  pub well_formed : WellFormed state
  pub passes : T (check state (only x) r (only y) certificate)
  pub shared : T (can_share state x r y)
