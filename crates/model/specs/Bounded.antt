-- Tests over all numbers below a bound.
use Rattle.std.specs.Prelude.{ℕ, zero, suc, Bool, true, false, cond, not, ◌&&◌, ◌||◌, ◌==◌}

unfoldable pub some_below : ℕ → (ℕ → Bool) → Bool
some_below zero f = false
some_below (suc n) f = f n || some_below n f

unfoldable pub all_below : ℕ → (ℕ → Bool) → Bool
all_below zero f = true
all_below (suc n) f = f n && all_below n f

unfoldable pub count_below : ℕ → (ℕ → Bool) → ℕ
count_below zero f = zero
count_below (suc n) f = cond (f n) (suc (count_below n f)) (count_below n f)

abbrev pub implies : Bool → Bool → Bool
implies a b = not a || b

-- The set that has one member.
abbrev pub only : ℕ → ℕ → Bool
only x p = p == x
