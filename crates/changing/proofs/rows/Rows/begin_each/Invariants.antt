use Rattle.bits.specs.Members.{left}
use Rattle.bits.specs.Sets.{holds}
use Rattle.graph.specs.Graphs.{state}
use Rattle.changing.specs.Rounds.{begun_row}
use Rattle.changing.proofs.Walked.{Walked}
use Rattle.changing.specs.Rows.{in_rows}
use Rattle.changing.proofs.rows.Rows.begin_each.Given as goal

abbrev pub invariant-loop-v : goal.invariant-loop-v
invariant-loop-v l =
    Walked (holds l.set) (begun_row (state l.graph) (holds l.set) (in_rows l.initial.self)) (in_rows l.initial.self) (in_rows l.self) (holds (left l.v-iterator))
