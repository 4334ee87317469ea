use Rattle.std.proofs.Common.{◌≡◌, ◌++◌, vec_items}
use Rattle.graph.specs.Graphs.{state}
use Rattle.codec.specs.Writing.{held_bytes}
use Rattle.codec.proofs.write.write_held.Given as goal

abbrev pub invariant-loop-r : goal.invariant-loop-r
invariant-loop-r l = vec_items l.out ≡ vec_items l.initial.out ++ held_bytes (state l.graph) l.p l.r
