use Rattle.bits.proofs.Member.{member_remove}
use Rattle.bits.proofs.words.cut.Goals as goal

pub returns : goal.returns
returns c = λ k. member_remove c.args.words.now c.args.at c.args.i k c.requires.0 c.requires.1
