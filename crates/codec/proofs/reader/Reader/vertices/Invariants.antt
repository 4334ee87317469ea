use Rattle.std.proofs.Common.{◌≡◌, ◌-◌}
use Rattle.graph.specs.Graphs.{state}
use Rattle.codec.specs.Books.{vertices_at}
use Rattle.codec.proofs.reader.Reader.vertices.Given as goal

-- What is left to read from here, into the graph as it is, answers what was to be read.
abbrev pub invariant-loop-p : goal.invariant-loop-p
invariant-loop-p l =
    record {
      input : l.self.bytes.now ≡ l.initial.self.bytes.now;
      size : (state l.graph).size ≡ (state l.initial.graph).size;
      left : vertices_at l.initial.self.bytes.now (state l.initial.graph).size l.p ((state l.initial.graph).size - l.p) l.self.at (state l.graph) ≡ vertices_at l.initial.self.bytes.now (state l.initial.graph).size 0 (state l.initial.graph).size l.initial.self.at (state l.initial.graph);
    }
