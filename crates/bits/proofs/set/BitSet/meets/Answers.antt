use Rattle.std.proofs.Common.{◌*◌, not, ◌&&◌, ap, ◌∙◌}
use Rattle.bits.specs.Sets.{among}
use Rattle.bits.proofs.Gathered.{not_all}
use Rattle.bits.proofs.set.BitSet.meets.Goals as goal

pub returns : goal.returns
returns g c =
    ap not c.is_empty.ensures
    ∙ not_all (64 * g.row.W) (among g.row.W c.intersection.result) (λ k. among g.row.W c.args.self.now k && among g.row.W c.args.other.now k) c.intersection.ensures
