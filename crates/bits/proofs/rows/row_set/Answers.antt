use Rattle.std.proofs.Common.{◌&&◌, ltb, ap, ◌∙◌}
use Rattle.bits.proofs.Cell.{cell_room}
use Rattle.bits.proofs.rows.row_set.Goals as goal

pub returns : goal.returns
returns c k =
    c.of.ensures k ∙ c.resized.ensures k ∙ ap (λ b. ltb k 256 && b) (c.row.ensures.same k)
    ∙ cell_room c.args.rows.now c.args.w c.args.x k 4 c.requires.1
