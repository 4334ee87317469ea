use Rattle.std.proofs.Common.{arith}
use Rattle.bits.proofs.Over.{cell_gained}
use Rattle.bits.proofs.rows.add_words.Goals as goal

pub returns : goal.returns
returns c = cell_gained c.args.rows.now c.unite.new.row c.args.words.now c.args.w c.args.x _ (omega arith) (omega arith) c.unite.ensures.size c.unite.ensures.value
