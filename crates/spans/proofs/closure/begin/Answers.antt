use Rattle.std.proofs.Common.{◌*◌, arith}
use Rattle.bits.specs.Rows.{cell}
use Rattle.bits.specs.Sets.{holds}
use Rattle.graph.specs.Graphs.{state}
use Rattle.graph.proofs.Sound.{target_below}
use Rattle.spans.proofs.Closing.{begun_more, begun_all}
use Rattle.spans.proofs.closure.begin.Goals as goal

pub loop-x-preserved : goal.loop-x-preserved
loop-x-preserved g c =
    begun_more (state c.args.graph.now) (cell c.args.rows.now g.row.W) (cell c.loop-x.rows g.row.W) (cell c.row_add.new.rows g.row.W)
    (cell c.row_insert.new.rows g.row.W) c.loop-x.x (64 * g.row.W) (holds c.targets.result)
    (λ y t. let l = target_below c.args.graph.now c.loop-x.x 0 y t in omega (arith, c.requires))
    c.targets.ensures.value c.row_add.ensures c.row_insert.ensures c.loop-x.invariant

pub returns : goal.returns
returns g c =
    begun_all (state c.args.graph.now) (cell c.args.rows.now g.row.W) (cell c.loop-x.rows g.row.W) c.loop-x.x
    (omega (arith, c.size-x-end.ensures.value)) c.loop-x.invariant
