-- The state that routes are of: that of the graph at the question.
use Rattle.model.specs.State.{State}
use Rattle.graph.specs.Graphs.{state}
use Rattle.witness.specs.declared.routes.Routes.{Routes}

abbrev pub routed : Routes → State
routed r = state r.graph.now
