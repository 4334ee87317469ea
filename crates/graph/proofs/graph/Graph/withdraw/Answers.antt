use Rattle.std.proofs.Common.{not, ◌&&◌, eqb, ◌∙◌, arith}
use Rattle.bits.specs.Rows.{cell}
use Rattle.bits.specs.Sets.{holds}
use Rattle.graph.specs.Graphs.{state}
use Rattle.graph.specs.Table.{in_table}
use Rattle.graph.proofs.Rows.{no_row}
use Rattle.graph.proofs.States.{state_without, fit_without, nothing_there}
use Rattle.graph.proofs.graph.Graph.withdraw.Goals as goal

pub invariant_of-self : goal.invariant_of-self
unfolding state
invariant_of-self c =
    let g = c.args.self.now in
    record {
      some = g.some;
      few = g.few;
      acting = g.acting;
      whole = omega (arith, g.whole);
      held = fit_without g.size g.rows c.row_remove.new.rows c.args.p c.args.r c.args.q (omega arith) c.if-r-lt-RIGHTS.true (omega arith)
          (λ y j. c.row_remove.ensures y j ∙ (λ i. not (eqb y (c.row_for.ensures i) && eqb j (c.from.ensures i)) && cell g.rows 2 y j))
          g.held;
    }

pub returns-then-r-lt-RIGHTS : goal.returns-then-r-lt-RIGHTS
unfolding state
returns-then-r-lt-RIGHTS c =
    let g = c.args.self.now in
    record {
      after =
          state_without g.size g.rows c.row_remove.new.rows c.args.p c.args.r c.args.q (omega arith) c.if-r-lt-RIGHTS.true (omega arith)
          (λ y j. c.row_remove.ensures y j ∙ (λ i. not (eqb y (c.row_for.ensures i) && eqb j (c.from.ensures i)) && cell g.rows 2 y j))
          (holds g.subjects);
    }

pub returns-else-r-lt-RIGHTS : goal.returns-else-r-lt-RIGHTS
unfolding state
returns-else-r-lt-RIGHTS c =
    let g = c.args.self.now in
    record { after = nothing_there g.size (holds g.subjects) (in_table g.rows) c.args.p c.args.r c.args.q (no_row g.rows c.args.p c.args.r c.args.q (omega (arith, c.if-r-lt-RIGHTS.false))) }
