-- Who can come to have which right to what: the test of Lipton and Snyder, and the relation that it decides.
use Rattle.std.specs.Prelude.{ℕ, Bool, ◌&&◌, ◌||◌, T, ◌⊎◌}
use Rattle.model.specs.State.{State}
use Rattle.model.specs.Bounded.{some_below}
use Rattle.model.specs.Spans.{initial_span, InitialSpan, terminal_span, TerminalSpan, connected, Connected}

-- x can get r to y from some holder of it, whether or not x has it already.
unfoldable pub can_get : State → ℕ → ℕ → ℕ → Bool
can_get s x r y =
    some_below s.size (λ t.
    s.has t r y &&
    some_below s.size (λ p. initial_span s p x && some_below s.size (λ q. terminal_span s q t && connected s p q)))

pub record CanGet (s : State) (x r y : ℕ) : Type 0 where
  pub holder : ℕ
  pub first : ℕ
  pub last : ℕ
  pub holds : T (s.has holder r y)
  pub initial : InitialSpan s first x
  pub terminal : TerminalSpan s last holder
  pub joined : Connected s first last

unfoldable pub can_share : State → ℕ → ℕ → ℕ → Bool
can_share s x r y = s.has x r y || can_get s x r y

abbrev pub CanShare : State → ℕ → ℕ → ℕ → Type 0
CanShare s x r y = T (s.has x r y) ⊎ CanGet s x r y
