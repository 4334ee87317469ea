use Rattle.std.proofs.Common.{◌≡◌, ◌-◌, ◌≤◌, length}
use Rattle.graph.specs.Graphs.{state}
use Rattle.codec.specs.Replay.{acts_at}
use Rattle.codec.proofs.history.apply_acts.Given as goal

-- The acts from here on, on the graph as it is, answer what all of them answer; and each of those so far took a byte at least.
abbrev pub invariant-loop-acts : goal.invariant-loop-acts
invariant-loop-acts l =
    record {
      input : l.acts.bytes.now ≡ l.initial.acts.bytes.now;
      many : l.count ≤ l.acts.at;
      left : acts_at (length l.initial.acts.bytes.now - l.count) l.initial.acts.bytes.now l.acts.at l.count (state l.graph) ≡ acts_at (length l.initial.acts.bytes.now) l.initial.acts.bytes.now l.initial.acts.at 0 (state l.initial.graph);
    }

abbrev pub decreases-loop-acts : goal.decreases-loop-acts
decreases-loop-acts l = length l.acts.bytes.now - l.acts.at
