use Rattle.std.proofs.Common.{sym, ◌∙◌}
use Rattle.bits.proofs.Bit.{bit_test}
use Rattle.bits.proofs.Member.{member_word}
use Rattle.bits.proofs.words.has.Goals as goal

pub returns : goal.returns
returns c = bit_test _ c.args.i ∙ sym (member_word c.args.words.now c.args.at c.args.i c.requires.1)
