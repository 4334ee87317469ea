use Rattle.std.proofs.Common.{◌-◌}
use Rattle.witness.proofs.row.Search.+walk.Given as goal

abbrev pub decreases-walk : goal.decreases-walk
decreases-walk g l = l.self.now.steps.size - l.k
