use Rattle.std.proofs.Common.{◌&&◌, ◌||◌, eqb, ◌∙◌, arith}
use Rattle.bits.specs.Rows.{cell}
use Rattle.bits.specs.Sets.{holds}
use Rattle.graph.specs.Graphs.{state}
use Rattle.graph.proofs.States.{state_with, fit_with}
use Rattle.graph.proofs.graph.Graph.add.Goals as goal

pub invariant_of-self : goal.invariant_of-self
unfolding state
invariant_of-self c =
    let g = c.args.self.now in
    record {
      some = g.some;
      few = g.few;
      acting = g.acting;
      whole = omega (arith, g.whole);
      held = fit_with g.size g.rows c.row_insert.new.rows c.args.p c.args.r c.args.q (omega arith) c.requires.1.0 (omega arith)
          (λ y j. c.row_insert.ensures y j ∙ (λ i. (eqb y (c.row_for.ensures i) && eqb j (c.from.ensures i)) || cell g.rows 2 y j))
          g.held c.requires.0 c.requires.1.1;
    }

pub returns : goal.returns
unfolding state
returns c =
    let g = c.args.self.now in
    record {
      after =
          state_with g.size g.rows c.row_insert.new.rows c.args.p c.args.r c.args.q (omega arith) c.requires.1.0 (omega arith)
          (λ y j. c.row_insert.ensures y j ∙ (λ i. (eqb y (c.row_for.ensures i) && eqb j (c.from.ensures i)) || cell g.rows 2 y j))
          (holds g.subjects);
    }
