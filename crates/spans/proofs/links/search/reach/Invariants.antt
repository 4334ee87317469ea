use Rattle.std.proofs.Common.{◌≡◌, ◌+◌}
use Rattle.spans.specs.Fronts.{unseen}
use Rattle.spans.proofs.links.search.reach.Given as goal

abbrev pub invariant-loop-search : goal.invariant-loop-search
invariant-loop-search g l = (l.search.view ≡ l.initial.search.view) × (l.search.from ≡ l.x)

abbrev pub decreases-loop-search : goal.decreases-loop-search
decreases-loop-search g l = unseen l.search.out + unseen l.search.into
