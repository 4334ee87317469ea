use Rattle.std.proofs.Common.{arith}
use Rattle.graph.specs.Graphs.{state}
use Rattle.graph.proofs.Rows.{width_covers, width_most}
use Rattle.graph.proofs.Sound.{few_vertices}
use Rattle.sharing.proofs.table.work.worked_out.Goals as goal

pub invariant_of-table : goal.invariant_of-table
invariant_of-table g c =
    let n = (state c.args.graph.now).size in
    record {
      fits = c.requires.0;
      exact = c.requires.1;
      wide = omega (arith, width_covers n (few_vertices c.args.graph.now), c.requires.1);
      narrow = omega (arith, width_most n, c.requires.1);
    }
