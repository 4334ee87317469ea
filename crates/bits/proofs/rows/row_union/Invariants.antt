use Rattle.bits.proofs.Cell.{Added}
use Rattle.bits.proofs.rows.row_union.Given as goal

abbrev pub invariant-loop-i : goal.invariant-loop-i
invariant-loop-i l = Added l.initial.rows l.w l.into l.from l.rows l.i
