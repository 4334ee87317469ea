use Rattle.graph.specs.Graphs.{state}
use Rattle.graph.proofs.graph.Graph.is_subject.Goals as goal

pub returns : goal.returns
unfolding state
returns c = record { value = c.contains.ensures }
