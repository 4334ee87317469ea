use Rattle.bits.specs.Rows.{cell}
use Rattle.graph.specs.Graphs.{state}
use Rattle.spans.proofs.Closing.{Begun}
use Rattle.spans.proofs.closure.begin.Given as goal

abbrev pub invariant-loop-x : goal.invariant-loop-x
invariant-loop-x g l = Begun (state l.graph) (cell l.initial.rows g.row.W) (cell l.rows g.row.W) l.x
