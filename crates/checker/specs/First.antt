-- The first of something, in the order of the numbers below a bound.
use Rattle.std.specs.Prelude.{ℕ, zero, suc, None, Option}
use Rattle.std.specs.Option.{option_or}

unfoldable pub first_below : {A : Type 0} → ℕ → (ℕ → Option A) → Option A
first_below zero f = None
first_below (suc n) f = option_or (first_below n f) (f n)
