use Rattle.std.proofs.Common.{◌&&◌, ltb, ◌∙◌, ap}
use Rattle.bits.proofs.Cell.{cell_room}
use Rattle.spans.proofs.paths.work.fn.rows_of.from_fn.Goals as goal

pub returns : goal.returns
returns g c k =
    c.resized.ensures k ∙ ap (λ b. ltb k 256 && b) (c.at.ensures k) ∙ cell_room c.captures.rows g.row.W c.args.x k 4 c.requires.1
