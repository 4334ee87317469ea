-- The state that answers are about: that of the graph they were worked out for.
use Rattle.model.specs.State.{State}
use Rattle.graph.specs.Graphs.{state}
use Rattle.sharing.specs.declared.sharing.Sharing.{Sharing}

abbrev pub answered : Sharing → State
answered t = state t.graph.now
