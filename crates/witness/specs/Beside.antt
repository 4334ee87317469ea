-- Vertices beside each other: one has grant to the other.
use Rattle.std.specs.Prelude.{ℕ, Bool, ◌&&◌, ◌||◌}
use Rattle.model.specs.State.{State}
use Rattle.model.specs.Bounded.{some_below}
use Rattle.model.specs.Spans.{can_grant}

abbrev pub near : State → ℕ → ℕ → Bool
near s u v = can_grant s u v || can_grant s v u

-- v is beside one of a set.
unfoldable pub beside_some : State → (ℕ → Bool) → ℕ → Bool
beside_some s f v = some_below s.size (λ u. f u && (can_grant s u v || can_grant s v u))
