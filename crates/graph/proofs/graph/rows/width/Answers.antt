use Rattle.std.proofs.Common.{sym, arith}
use Rattle.graph.proofs.Rows.{width_few, width_many}
use Rattle.graph.proofs.graph.rows.width.Goals as goal

pub returns-then-size-le-NARROW : goal.returns-then-size-le-NARROW
returns-then-size-le-NARROW c = sym (width_few c.args.size (omega arith))

pub returns-else-size-le-NARROW : goal.returns-else-size-le-NARROW
returns-else-size-le-NARROW c = sym (width_many c.args.size (omega arith))
