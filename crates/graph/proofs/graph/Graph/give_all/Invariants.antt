use Rattle.std.proofs.Common.{◌≡◌}
use Rattle.graph.specs.Graphs.{state, gifted}
use Rattle.graph.proofs.graph.Graph.give_all.Given as goal

abbrev pub invariant-loop-r : goal.invariant-loop-r
invariant-loop-r l = state l.self ≡ gifted l.p l.rights l.q l.r (state l.initial.self)
