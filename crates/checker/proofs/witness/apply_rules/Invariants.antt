use Rattle.std.proofs.Common.{◌≡◌, ◌-◌}
use Rattle.graph.specs.Graphs.{state}
use Rattle.checker.specs.Reading.{rules_at}
use Rattle.checker.proofs.witness.apply_rules.Given as goal

-- The rules that are left, applied to the graph as it is, answer what all of them answer.
abbrev pub invariant-loop-i : goal.invariant-loop-i
invariant-loop-i l =
    record {
      input : l.rules.bytes.now ≡ l.initial.rules.bytes.now;
      left : rules_at (l.count - l.i) l.initial.rules.bytes.now l.rules.at l.i (state l.graph) ≡ rules_at l.count l.initial.rules.bytes.now l.initial.rules.at 0 (state l.initial.graph);
    }
