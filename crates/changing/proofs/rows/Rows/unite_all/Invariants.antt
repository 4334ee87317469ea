use Rattle.bits.specs.Members.{left}
use Rattle.bits.specs.Sets.{holds}
use Rattle.changing.proofs.United.{United}
use Rattle.changing.specs.Rows.{in_rows}
use Rattle.changing.proofs.rows.Rows.unite_all.Given as goal

abbrev pub invariant-loop-w : goal.invariant-loop-w
invariant-loop-w l = United l.into (holds l.fn.set) (in_rows l.initial.self) (in_rows l.self) (holds (left l.w-iterator))
