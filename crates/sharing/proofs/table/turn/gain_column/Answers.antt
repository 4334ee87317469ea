use Rattle.std.proofs.Common.{◌+◌, ◌*◌, ◌≤◌, length, sym, subst, arith}
use Rattle.bits.proofs.Cell.{rows_apart}
use Rattle.sharing.proofs.table.turn.gain_column.Goals as goal

pub row_word-requires : goal.row_word-requires
row_word-requires g c = let last = rows_apart c.loop-i.i 64 g.row.W (omega arith) in (omega arith, omega arith)

pub gain-requires : goal.gain-requires
gain-requires g c = let there = c.requires.there c.loop-i.i (omega arith) in (subst (λ m. m * g.row.W + g.row.W ≤ length c.loop-i.rows) (sym c.row_at.ensures) (omega arith), omega arith)
