use Rattle.std.proofs.Common.{sym, ◌∙◌, arith}
use Rattle.std.proofs.lemmas.Bool.{le-ltb}
use Rattle.bits.specs.Rows.{cell}
use Rattle.graph.specs.Graphs.{state}
use Rattle.graph.proofs.Rows.{no_row, the_row}
use Rattle.graph.proofs.graph.Graph.has.Goals as goal

pub returns-then-r-lt-RIGHTS : goal.returns-then-r-lt-RIGHTS
unfolding state
returns-then-r-lt-RIGHTS c =
    let g = c.args.self.now in
    record {
      value =
          c.row_contains.ensures ∙ (λ i. cell g.rows 2 (c.row_for.ensures i) (c.from.ensures i))
          ∙ the_row g.rows c.args.p c.args.r c.args.q (omega arith) c.if-r-lt-RIGHTS.true (omega arith);
    }

pub returns-else-r-lt-RIGHTS : goal.returns-else-r-lt-RIGHTS
unfolding state
returns-else-r-lt-RIGHTS c =
    let past = c.if-r-lt-RIGHTS.false in
    record { value = le-ltb c.args.r 8 (omega arith) ∙ sym (no_row c.args.self.now.rows c.args.p c.args.r c.args.q (omega arith)) }
