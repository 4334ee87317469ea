use Rattle.model.proofs.theorems.new_vertex_shared.Goals as goal
use Rattle.model.proofs.Creations.{newly_shared}

pub returns : goal.returns
returns c = newly_shared
