use Rattle.std.proofs.Common.{◌≡◌, ℕ, ◌/◌, ◌%◌, ◌&&◌, ◌||◌, eqb, ltb, length}
use Rattle.bits.specs.Rows.{cell}
use Rattle.sharing.specs.Filling.{block_row}
use Rattle.sharing.proofs.table.turn.gain_column.Given as goal

abbrev pub invariant-loop-i : goal.invariant-loop-i
invariant-loop-i g l =
    (length l.rows ≡ length l.initial.rows)
    × ((i x : ℕ) → cell l.rows g.row.W i x ≡ (cell l.initial.rows g.row.W i x || (((eqb (i / 8 / 64) l.c && (eqb (i % 8) l.r && eqb (x / 64) l.g)) && ltb (i / 8 % 64) l.i) && block_row (cell l.block g.row.W) i x)))
