use Rattle.std.proofs.Common.{◌≡◌}
use Rattle.bits.specs.Sets.{among}
use Rattle.sharing.specs.Filling.{about, cells}
use Rattle.sharing.proofs.Bringing.{Brought}
use Rattle.sharing.proofs.table.Table.spread.Given as goal

abbrev pub invariant-loop-r : goal.invariant-loop-r
invariant-loop-r g l =
    (l.self.graph ≡ l.initial.self.graph)
    × Brought (about g.row.W l.initial.self) (among g.row.W l.inner) (among g.row.W l.out) (cells g.row.W l.initial.self) (cells g.row.W l.self) l.r
