use Rattle.std.proofs.Common.{◌&&◌, eqb}
use Rattle.sharing.specs.Filling.{about, added, cells, of_rights, Becomes}
use Rattle.sharing.proofs.table.Table.enter.Given as goal

abbrev pub invariant-loop-r : goal.invariant-loop-r
invariant-loop-r g l = Becomes g.row.W l.initial.self l.self (added (about g.row.W l.initial.self) (λ i y. of_rights l.first l.r i && eqb y l.x) (cells g.row.W l.initial.self))
