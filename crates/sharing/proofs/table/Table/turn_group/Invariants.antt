use Rattle.std.proofs.Common.{◌≡◌, ◌/◌, ◌&&◌, eqb, length}
use Rattle.sharing.specs.Filling.{about, cells, of_rights, placed, Becomes}
use Rattle.sharing.specs.Table.{has_row}
use Rattle.sharing.proofs.table.Table.turn_group.Given as goal

abbrev pub invariant-loop-r : goal.invariant-loop-r
invariant-loop-r g l =
    let s = about g.row.W l.initial.self in
    (length l.block ≡ length l.initial.block) × Becomes g.row.W l.initial.self l.self (placed s (λ i x. of_rights l.first l.r i && eqb (x / 64) l.g) (has_row s) (cells g.row.W l.initial.self))
