-- Blocks of 64 rows, turned round 64 columns at a time: by halves, quarters and so on down to single bits.
use Rattle.std.specs.Prelude.{◌≡◌, ℕ, ◌+◌, ◌-◌, ◌/◌, ◌%◌, ◌<◌, Bool, cond, ◌==◌}
use Rattle.model.specs.Bit.{bit}

-- Whether a column lies in an odd strip of j columns.
unfoldable pub strip : ℕ → ℕ → ℕ
strip j k = k % 64 / j % 2

-- The cells of e after row x and row x + j have exchanged the odd strips of the one with the even strips of the other.
unfoldable pub exchanged : ℕ → ℕ → (ℕ → ℕ → Bool) → ℕ → ℕ → Bool
exchanged j x e r k =
    cond (r == x) (cond (strip j k == 0) (e x k) (e (x + j) (k - j)))
    (cond (r == x + j) (cond (strip j k == 0) (e x (k + j)) (e (x + j) k)) (e r k))

-- The cells of e after all rows of a block have done so, two strips of rows at a time.
unfoldable pub swapped : ℕ → (ℕ → ℕ → Bool) → ℕ → ℕ → Bool
swapped j e r k =
    cond (r / j % 2 == strip j k) (e r k) (cond (r / j % 2 == 0) (e (r + j) (k - j)) (e (r - j) (k + j)))

-- A mask of the even strips of j columns.
pub record Mask (j mask : ℕ) : Type 0 where
  pub some : 0 < j
  pub few : j < 64
  pub bits : (k : ℕ) → k < 64 → bit mask k ≡ (k / j % 2 == 0)
  pub whole : (k : ℕ) → k < 64 → k / j % 2 ≡ 0 → k + j < 64
