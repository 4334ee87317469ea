-- Laws of the reflexive transitive closure of a relation.
use Rattle.std.proofs.Common.{ℕ}
use Rattle.model.specs.Closure.{Star, here, next}

pub one_step : {R : ℕ → ℕ → Type 0} {x y : ℕ} → R x y → Star R x y
one_step e = next e here

pub append : {R : ℕ → ℕ → Type 0} {x y z : ℕ} → Star R x y → Star R y z → Star R x z
append here w = w
append (next e v) w = next e (append v w)

pub reverse : {R : ℕ → ℕ → Type 0} {x y : ℕ} → ((a b : ℕ) → R a b → R b a) → Star R x y → Star R y x
reverse turn here = here
reverse {x = p} turn (next {z = q} e v) = append (reverse turn v) (one_step (turn p q e))

-- What passes from the start of each step to its end passes from the start of a row to its end,
pub along : {R : ℕ → ℕ → Type 0} {x y : ℕ} (P : ℕ → Type 0) → ((a b : ℕ) → R a b → P a → P b) → Star R x y → P x → P y
along P pass here h = h
along {x = p} P pass (next {z = q} e v) h = along P pass v (pass p q e h)

-- and so for the other way round.
pub against : {R : ℕ → ℕ → Type 0} {x y : ℕ} (P : ℕ → Type 0) → ((a b : ℕ) → R a b → P b → P a) → Star R x y → P y → P x
against P pass here h = h
against {x = p} P pass (next {z = q} e v) h = pass p q e (against P pass v h)

pub map_steps : {R S : ℕ → ℕ → Type 0} {x y : ℕ} → ((a b : ℕ) → R a b → S a b) → Star R x y → Star S x y
map_steps f here = here
map_steps {x = p} f (next {z = q} e v) = next (f p q e) (map_steps f v)
