use Rattle.std.proofs.Common.{◌||◌}
use Rattle.bits.specs.Members.{left}
use Rattle.bits.specs.Sets.{holds}
use Rattle.changing.proofs.Walked.{Walked}
use Rattle.changing.specs.Rows.{in_rows}
use Rattle.changing.proofs.rows.Rows.unite_each.Given as goal

abbrev pub invariant-loop-v : goal.invariant-loop-v
invariant-loop-v l =
    Walked (holds l.fn.set) (λ x y. in_rows l.initial.self x y || in_rows l.initial.self l.from y) (in_rows l.initial.self)
    (in_rows l.self) (holds (left l.v-iterator))
