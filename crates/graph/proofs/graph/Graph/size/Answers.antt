use Rattle.std.proofs.Common.{refl}
use Rattle.graph.specs.Graphs.{state}
use Rattle.graph.proofs.graph.Graph.size.Goals as goal

pub returns : goal.returns
unfolding state
returns c = record { value = refl }
