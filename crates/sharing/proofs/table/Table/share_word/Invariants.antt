use Rattle.std.proofs.Common.{◌≡◌}
use Rattle.bits.specs.Sets.{among}
use Rattle.model.specs.Bit.{bit}
use Rattle.model.specs.Bounded.{count_below}
use Rattle.sharing.specs.Filling.{cells, in_word}
use Rattle.sharing.proofs.Gathered.{Shared}
use Rattle.sharing.proofs.table.Table.share_word.Given as goal

abbrev pub invariant-loop-b : goal.invariant-loop-b
invariant-loop-b g l =
    (l.self.graph ≡ l.initial.self.graph)
    × Shared l.r (in_word l.c l.word) (among g.row.W l.who) (cells g.row.W l.initial.self) (cells g.row.W l.self) (in_word l.c l.rest)

abbrev pub decreases-loop-b : goal.decreases-loop-b
decreases-loop-b g l = count_below 64 (bit l.rest)
