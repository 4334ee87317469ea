use Rattle.std.proofs.Common.{◌≡◌, ◌++◌, vec_items}
use Rattle.graph.specs.Graphs.{state}
use Rattle.codec.specs.Writing.{head_bytes, vertices_bytes}
use Rattle.codec.proofs.write.write_book.Given as goal

abbrev pub invariant-loop-p : goal.invariant-loop-p
invariant-loop-p l = vec_items l.out ≡ head_bytes (state l.graph) ++ vertices_bytes (state l.graph) l.p
