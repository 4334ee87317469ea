use Rattle.std.proofs.Common.{◌≡◌}
use Rattle.bits.specs.Sets.{holds}
use Rattle.graph.specs.Graphs.{state}
use Rattle.checker.specs.Looking.{certificate, looked_below}
use Rattle.checker.proofs.certificate.Certificate.first_fault.Given as goal

-- What was found so far is what there is to find below the vertex.
abbrev pub invariant-loop-p : goal.invariant-loop-p
invariant-loop-p l =
    l.looked ≡ looked_below (state l.graph) (holds l.claim.holders) l.claim.right (holds l.claim.targets) (certificate l.self) l.p
