use Rattle.std.proofs.Common.{◌≡◌, length}
use Rattle.bits.proofs.Cell.{Gained}
use Rattle.bits.proofs.rows.unite.Given as goal

abbrev pub invariant-loop-i : goal.invariant-loop-i
invariant-loop-i l = (length l.row ≡ length l.initial.row) × Gained l.initial.row l.words l.row l.i
