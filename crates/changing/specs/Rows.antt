-- Rows of take paths, as they stand in their words.
use Rattle.std.specs.Prelude.{ℕ, Bool}
use Rattle.bits.specs.Rows.{cell}
use Rattle.changing.specs.declared.rows.Rows.{Rows}

-- Has row x the number y?
abbrev pub in_rows : Rows → ℕ → ℕ → Bool
in_rows r x y = cell r.words.now 4 x y
