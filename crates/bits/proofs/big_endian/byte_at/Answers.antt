use Rattle.bits.proofs.Packed.{byte_of_words}
use Rattle.bits.proofs.big_endian.byte_at.Goals as goal

pub returns : goal.returns
returns c = byte_of_words c.args.words.now c.args.j
