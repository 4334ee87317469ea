use Rattle.bits.specs.Rows.{cell}
use Rattle.spans.proofs.Closing.{Turned}
use Rattle.spans.proofs.closure.round.Given as goal

abbrev pub invariant-loop-i : goal.invariant-loop-i
invariant-loop-i g l = Turned (cell l.initial.rows g.row.W) l.k (cell l.rows g.row.W) l.i
