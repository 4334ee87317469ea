use Rattle.std.proofs.Common.{◌≡◌, ◌/◌, ◌&&◌, ltb, length}
use Rattle.sharing.specs.Filling.{about, cells, of_rights, placed, Becomes}
use Rattle.sharing.specs.Table.{has_row}
use Rattle.sharing.proofs.table.Table.turn_blocks.Given as goal

abbrev pub invariant-loop-g : goal.invariant-loop-g
invariant-loop-g g l =
    let s = about g.row.W l.initial.self in
    (length l.block ≡ 256) × Becomes g.row.W l.initial.self l.self (placed s (λ i x. of_rights l.first l.end i && ltb (x / 64) l.g) (has_row s) (cells g.row.W l.initial.self))
