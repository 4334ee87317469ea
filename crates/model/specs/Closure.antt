-- The reflexive transitive closure of a relation on vertices: as a test with a bound on its steps, and as a relation without one.
use Rattle.std.specs.Prelude.{ℕ, zero, suc, Bool, ◌&&◌, ◌||◌, ◌==◌}
use Rattle.model.specs.Bounded.{some_below}

-- From x to y in at most k steps of e, each to a vertex below n.
unfoldable pub within : ℕ → ℕ → (ℕ → ℕ → Bool) → ℕ → ℕ → Bool
within zero n e x y = x == y
within (suc k) n e x y = x == y || some_below n (λ z. e x z && within k n e z y)

-- From x to y in any number of steps of R.
pub data Star (R : ℕ → ℕ → Type 0) : ℕ → ℕ → Type 0 where
  here : {x : ℕ} → Star R x x
  next : {x z y : ℕ} → R x z → Star R z y → Star R x y
