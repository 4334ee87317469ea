use Rattle.std.proofs.Common.{◌&&◌, ltb}
use Rattle.sharing.specs.Filling.{about, added, cells, of_links, Becomes}
use Rattle.sharing.proofs.table.Table.enter_links.Given as goal

abbrev pub invariant-loop-x : goal.invariant-loop-x
invariant-loop-x g l = Becomes g.row.W l.initial.self l.self (added (about g.row.W l.initial.self) (λ i y. of_links i && ltb y l.x) (cells g.row.W l.initial.self))
