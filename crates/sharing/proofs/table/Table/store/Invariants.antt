use Rattle.std.proofs.Common.{◌/◌, ◌%◌, ◌&&◌, eqb, ltb}
use Rattle.bits.specs.Rows.{cell}
use Rattle.sharing.specs.Filling.{about, block_row, cells, placed, Becomes}
use Rattle.sharing.proofs.table.Table.store.Given as goal

abbrev pub invariant-loop-c : goal.invariant-loop-c
invariant-loop-c g l =
    Becomes g.row.W l.initial.self l.self (placed (about g.row.W l.initial.self) (λ i x. ltb (i / 8 / 64) l.c && (eqb (i % 8) l.r && eqb (x / 64) l.g)) (block_row (cell l.block g.row.W)) (cells g.row.W l.initial.self))
