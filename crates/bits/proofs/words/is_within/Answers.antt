use Rattle.std.proofs.Common.{arith}
use Rattle.bits.proofs.Within.{within_word}
use Rattle.bits.proofs.words.is_within.Goals as goal

pub returns : goal.returns
returns c = within_word c.args.a c.args.b (omega arith) (omega arith)
