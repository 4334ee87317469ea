use Rattle.std.proofs.Common.{arith}
use Rattle.bits.proofs.Holds.{among_words}
use Rattle.bits.proofs.set.BitSet.of.Goals as goal

pub returns : goal.returns
returns g c = λ k. among_words g.row.W _ k (omega arith)
