use Rattle.bits.specs.Sets.{in_row}
use Rattle.spans.proofs.Entered.{Turning}
use Rattle.spans.proofs.turned.turned.Given as goal

abbrev pub invariant-loop-x : goal.invariant-loop-x
invariant-loop-x g l = Turning (goal.F-post g l.row) (in_row l.sets) l.x
