use Rattle.bits.specs.Rows.{cell}
use Rattle.spans.proofs.Closing.{Closing}
use Rattle.spans.proofs.closure.close.Given as goal

abbrev pub invariant-loop-k : goal.invariant-loop-k
invariant-loop-k g l = Closing l.n (cell l.initial.rows g.row.W) (cell l.rows g.row.W) l.k
