-- A walk through the members of a set, the lowest first.
use Rattle.std.specs.Prelude.{◌≡◌, ℕ, ◌<◌, Bool, true, false, not, ◌&&◌, Option, MatchOption, ◌==◌}
use Rattle.bits.specs.declared.members.Members.{Members}
use Rattle.bits.specs.declared.set.BitSet.{BitSet}

-- Who is left of the set.
abbrev pub left : {w : ℕ} → Members w → BitSet w
left m = m.rest

-- A turn from f to g: nobody was left, or v was the lowest, and g is f without v.
abbrev pub TakesLowest : (ℕ → Bool) → Option ℕ → (ℕ → Bool) → Type 0
TakesLowest f r g =
    MatchOption r (((k : ℕ) → f k ≡ false) × ((k : ℕ) → g k ≡ false))
    (λ v. (f v ≡ true) × ((k : ℕ) → k < v → f k ≡ false) × ((k : ℕ) → g k ≡ (not (k == v) && f k)))
