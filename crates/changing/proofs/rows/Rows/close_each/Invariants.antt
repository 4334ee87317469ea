use Rattle.bits.specs.Sets.{holds}
use Rattle.changing.specs.Rounds.{Shut}
use Rattle.changing.proofs.Rounds.{Closing}
use Rattle.changing.specs.Rows.{in_rows}
use Rattle.changing.proofs.rows.Rows.close_each.Given as goal

abbrev pub invariant-loop-k : goal.invariant-loop-k
invariant-loop-k l = Closing (holds l.set) (in_rows l.initial.self) (in_rows l.self) l.k × Shut (holds l.set) (in_rows l.self)
