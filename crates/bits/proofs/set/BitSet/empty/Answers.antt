use Rattle.std.proofs.Common.{◌∙◌}
use Rattle.bits.proofs.Member.{member_zeros}
use Rattle.bits.proofs.set.BitSet.empty.Goals as goal

pub returns : goal.returns
returns g c = λ k. c.of.ensures k ∙ member_zeros g.row.W k
