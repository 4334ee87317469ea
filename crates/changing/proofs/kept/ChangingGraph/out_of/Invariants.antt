use Rattle.std.proofs.Common.{not}
use Rattle.bits.specs.Sets.{holds}
use Rattle.model.specs.Bounded.{count_below}
use Rattle.changing.specs.Of.{tracked}
use Rattle.changing.proofs.Searching.{Searching}
use Rattle.changing.proofs.kept.ChangingGraph.out_of.Given as goal

abbrev pub invariant-loop-entries : goal.invariant-loop-entries
invariant-loop-entries l = Searching (tracked l.self) l.x (holds l.out) (holds l.entries)

abbrev pub decreases-loop-entries : goal.decreases-loop-entries
decreases-loop-entries l = count_below 256 (λ k. not (holds l.out k))
