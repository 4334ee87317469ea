use Rattle.bits.proofs.Member.{member_insert}
use Rattle.bits.proofs.words.put.Goals as goal

pub returns : goal.returns
returns c = λ k. member_insert c.args.words.now c.args.at c.args.i k c.requires.0 c.requires.1
