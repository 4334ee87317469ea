-- The state that what is worked out of a graph speaks of: the graph's.
use Rattle.model.specs.State.{State}
use Rattle.graph.specs.Graphs.{state}
use Rattle.spans.specs.declared.links.Links.{Links}
use Rattle.spans.specs.declared.paths.TakePaths.{TakePaths}

abbrev pub linked : Links → State
linked l = state l.graph.now

abbrev pub spanned : TakePaths → State
spanned p = state p.graph.now
