-- The states that a book can be written for: 1 to 255 vertices, and subjects and rights only among those that there are.
use Rattle.std.specs.Prelude.{ℕ, ◌<◌, T}
use Rattle.model.specs.State.{State, WellFormed}

pub record Bookable (s : State) : Type 0 where
  pub some : 0 < s.size
  pub few : s.size < 256
  pub formed : WellFormed s
  pub acting : (p : ℕ) → T (s.subject p) → p < s.size
  pub rights : (p r q : ℕ) → T (s.has p r q) → r < 8
