use Rattle.std.proofs.Common.{◌≡◌}
use Rattle.bits.specs.Sets.{among}
use Rattle.sharing.specs.Filling.{cells}
use Rattle.sharing.proofs.Gathered.{Words}
use Rattle.sharing.proofs.table.Table.share.Given as goal

abbrev pub invariant-loop-c : goal.invariant-loop-c
invariant-loop-c g l =
    (l.self.graph ≡ l.initial.self.graph)
    × Words l.r (among g.row.W l.targets) (among g.row.W l.who) (cells g.row.W l.initial.self) (cells g.row.W l.self) l.c
