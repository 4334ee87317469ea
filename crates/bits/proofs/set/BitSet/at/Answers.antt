use Rattle.std.proofs.Common.{◌*◌, ◌&&◌, ltb, ap, ◌∙◌, arith}
use Rattle.bits.proofs.Cell.{cell_room}
use Rattle.bits.proofs.set.BitSet.at.Goals as goal

pub returns : goal.returns
returns g c k =
    c.of.ensures k ∙ c.resized.ensures k ∙ ap (λ b. ltb k (64 * g.row.W) && b) (c.row.ensures.same k)
    ∙ cell_room c.args.rows.now g.row.W c.args.x k g.row.W (omega arith)
