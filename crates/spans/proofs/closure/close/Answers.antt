use Rattle.bits.specs.Rows.{cell}
use Rattle.spans.proofs.Closing.{closing_none, closing_more}
use Rattle.spans.proofs.closure.close.Goals as goal

pub loop-k-init : goal.loop-k-init
loop-k-init g c = closing_none c.args.n (cell c.args.rows.now g.row.W)

pub loop-k-preserved : goal.loop-k-preserved
loop-k-preserved g c =
    closing_more c.args.n (cell c.args.rows.now g.row.W) (cell c.loop-k.rows g.row.W) (cell c.round.new.rows g.row.W) c.loop-k.k
    c.round.ensures c.loop-k.invariant
