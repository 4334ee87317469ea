-- The state that a view speaks of.
use Rattle.std.specs.Prelude.{ℕ}
use Rattle.graph.specs.Graphs.{state}
use Rattle.model.specs.State.{State}
use Rattle.spans.specs.declared.links.view.View.{View}

abbrev pub viewed : {w v : ℕ} → View w v → State
viewed v = state v.graph.now
