use Rattle.bits.proofs.Bit.{bit_test}
use Rattle.bits.proofs.words.has_bit.Goals as goal

pub returns : goal.returns
returns c = bit_test c.args.byte c.args.i
