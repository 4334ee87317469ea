-- Tables of bits: w words to a row, one row after the other.
use Rattle.std.specs.Prelude.{ℕ, ◌+◌, ◌*◌, Bool, ◌&&◌, List, nat_lt}
use Rattle.bits.specs.Sets.{member}

-- Has row x the number k?
unfoldable pub cell : List ℕ → ℕ → ℕ → ℕ → Bool
cell t w x k = nat_lt k (64 * w) && member t (64 * (x * w) + k)
