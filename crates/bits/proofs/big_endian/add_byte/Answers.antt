use Rattle.std.proofs.Common.{arith}
use Rattle.bits.proofs.Packed.{member_add_byte}
use Rattle.bits.proofs.big_endian.add_byte.Goals as goal

pub returns : goal.returns
returns c = λ k. member_add_byte c.args.words.now c.args.j c.args.byte c.from.result k c.from.ensures (omega arith) (omega arith)
