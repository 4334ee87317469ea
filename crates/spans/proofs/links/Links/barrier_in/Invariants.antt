use Rattle.std.proofs.Common.{◌≡◌, ◌+◌}
use Rattle.spans.specs.Fronts.{unseen}
use Rattle.spans.proofs.links.Links.barrier_in.Given as goal

abbrev pub invariant-loop : goal.invariant-loop
invariant-loop g l = (l.search.view ≡ l.initial.search.view) × (l.search.from ≡ l.x)

abbrev pub decreases-loop : goal.decreases-loop
decreases-loop g l = unseen l.search.out + unseen l.search.into
