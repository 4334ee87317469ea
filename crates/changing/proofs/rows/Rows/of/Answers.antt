use Rattle.std.proofs.Common.{ap, ◌∙◌, arith}
use Rattle.bits.specs.Rows.{cell}
use Rattle.graph.proofs.Sound.{few_vertices}
use Rattle.bits.proofs.Cell.{cell_zeros}
use Rattle.changing.proofs.rows.Rows.of.Goals as goal

pub lead-requires : goal.lead-requires
lead-requires c =
    let few = few_vertices c.args.graph.now in
    record {
      graph_in_bounds = (omega arith, (omega arith, omega arith));
      by_index = λ x y. ap (λ rows. cell rows 4 x y) (c.fill.ensures.after (λ y e. e)) ∙ cell_zeros _ 4 x y;
    }
