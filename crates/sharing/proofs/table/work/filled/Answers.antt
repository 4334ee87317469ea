use Rattle.std.proofs.Common.{◌*◌, ◌≤◌, length, sym, ap, ◌∙◌, subst, arith}
use Rattle.bits.specs.Rows.{cell}
use Rattle.graph.specs.Graphs.{state}
use Rattle.graph.proofs.Rows.{width_few, width_many}
use Rattle.sharing.specs.Table.{table_words}
use Rattle.sharing.proofs.table.work.filled.Goals as goal

pub worked_out-requires : goal.worked_out-requires
unfolding table_words
worked_out-requires c =
    let few = width_few (state c.args.graph.now).size (omega (arith, c.size.ensures.value)) in
    (subst (λ w. 8 * (state c.args.graph.now).size * w ≤ length c.args.rows.now) few c.requires, sym (width_few (state c.args.graph.now).size (omega (arith, c.size.ensures.value))))

pub worked_out-requires-else-size-le-NARROW : goal.worked_out-requires-else-size-le-NARROW
unfolding table_words
worked_out-requires-else-size-le-NARROW c =
    let many = width_many (state c.args.graph.now).size (omega (arith, c.size.ensures.value)) in
    (subst (λ w. 8 * (state c.args.graph.now).size * w ≤ length c.args.rows.now) many c.requires, sym (width_many (state c.args.graph.now).size (omega (arith, c.size.ensures.value))))

pub returns-then-size-le-NARROW : goal.returns-then-size-le-NARROW
unfolding table_words
returns-then-size-le-NARROW c =
    let few = width_few (state c.args.graph.now).size (omega (arith, c.size.ensures.value)) in
    record {
      cells = λ i x. ap (λ w. cell c.worked_out.result.now w i x) few ∙ c.worked_out.ensures.cells i x;
      size = subst (λ w. 8 * (state c.args.graph.now).size * w ≤ length c.worked_out.result.now) (sym few) c.worked_out.ensures.size;
    }

pub returns-else-size-le-NARROW : goal.returns-else-size-le-NARROW
unfolding table_words
returns-else-size-le-NARROW c =
    let many = width_many (state c.args.graph.now).size (omega (arith, c.size.ensures.value)) in
    record {
      cells = λ i x. ap (λ w. cell c.worked_out-else-size-le-NARROW.result.now w i x) many ∙ c.worked_out-else-size-le-NARROW.ensures.cells i x;
      size = subst (λ w. 8 * (state c.args.graph.now).size * w ≤ length c.worked_out-else-size-le-NARROW.result.now) (sym many) c.worked_out-else-size-le-NARROW.ensures.size;
    }
