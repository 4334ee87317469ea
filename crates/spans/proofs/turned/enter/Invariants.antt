use Rattle.std.proofs.Common.{◌≡◌, length}
use Rattle.bits.specs.Members.{left}
use Rattle.bits.specs.Sets.{holds, in_row}
use Rattle.spans.proofs.Entered.{Entered}
use Rattle.spans.proofs.turned.enter.Given as goal

abbrev pub invariant-loop-y : goal.invariant-loop-y
invariant-loop-y l = (length l.sets ≡ 256) × Entered (in_row l.initial.sets) (holds l.fn.targets) l.x (in_row l.sets) (holds (left l.y-iterator))
