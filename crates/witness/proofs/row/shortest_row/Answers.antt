use Rattle.std.proofs.Common.{append-nil, sym, ◌∙◌}
use Rattle.model.specs.Exact.{first_row}
use Rattle.witness.specs.Rows.{row_vertices}
use Rattle.witness.proofs.row.shortest_row.Goals as goal

pub returns : goal.returns
unfolding first_row
returns g c = sym (append-nil (row_vertices c.walk.new.row)) ∙ c.walk.ensures.walked
