use Rattle.std.proofs.Common.{◌+◌, ◌-◌, cond, ltb, sym, ◌∙◌, arith}
use Rattle.bits.specs.Rows.{cell}
use Rattle.graph.specs.Graphs.{state}
use Rattle.graph.proofs.Rows.{both_rows, no_row}
use Rattle.graph.proofs.graph.Graph.targets.Goals as goal

pub returns-then-r-lt-RIGHTS : goal.returns-then-r-lt-RIGHTS
unfolding state
returns-then-r-lt-RIGHTS c =
    let g = c.args.self.now in
    record {
      value = λ k.
          c.of_halves.ensures k
          ∙ (λ i. cond (ltb k 128) (c.at.ensures k i) (c.at-then-r-lt-RIGHTS.ensures (k - 128) i))
          ∙ (λ i. cond (ltb k 128) (cell g.rows 2 (c.row-low.ensures i) k) (cell g.rows 2 (2048 + c.row-low.ensures i) (k - 128)))
          ∙ both_rows g.rows c.args.p c.args.r k (omega arith) c.if-r-lt-RIGHTS.true;
    }

pub returns-else-r-lt-RIGHTS : goal.returns-else-r-lt-RIGHTS
unfolding state
returns-else-r-lt-RIGHTS c = record { value = λ k. c.empty.ensures k ∙ sym (no_row c.args.self.now.rows c.args.p c.args.r k (omega (arith, c.if-r-lt-RIGHTS.false))) }
