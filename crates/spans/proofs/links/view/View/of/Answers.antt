use Rattle.std.proofs.Common.{arith}
use Rattle.graph.specs.Graphs.{state}
use Rattle.graph.proofs.Rows.{width_covers, width_most}
use Rattle.graph.proofs.Sound.{few_vertices}
use Rattle.spans.proofs.links.view.View.of.Goals as goal

pub invariant_of-result : goal.invariant_of-result
invariant_of-result g c =
    let n = (state c.args.graph.now).size in
    record {
      all = (c.type_inv.takers, c.type_inv.granters);
      exact = c.requires.exact;
      wide = omega (arith, width_covers n (few_vertices c.args.graph.now), c.requires.exact);
      narrow = omega (arith, width_most n, c.requires.exact);
      taken = c.requires.taken;
      granted = c.requires.granted;
    }
