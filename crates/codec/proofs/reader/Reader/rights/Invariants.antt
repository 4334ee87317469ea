use Rattle.std.proofs.Common.{◌≡◌, ◌-◌}
use Rattle.graph.specs.Graphs.{state}
use Rattle.codec.specs.Books.{rights_at, first}
use Rattle.codec.proofs.reader.Reader.rights.Given as goal

-- What is left to read from here, into the graph as it is, answers what was to be read.
abbrev pub invariant-loop : goal.invariant-loop
invariant-loop l =
    record {
      input : l.self.bytes.now ≡ l.initial.self.bytes.now;
      size : (state l.graph).size ≡ (state l.initial.graph).size;
      left : rights_at l.initial.self.bytes.now (state l.initial.graph).size l.p (l.count - l.counter) l.least l.self.at (state l.graph) ≡ rights_at l.initial.self.bytes.now (state l.initial.graph).size l.p l.count first l.initial.self.at (state l.initial.graph);
    }
