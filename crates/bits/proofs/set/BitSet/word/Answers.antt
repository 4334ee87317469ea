use Rattle.std.proofs.Common.{◌+◌, ◌*◌, sym, ◌∙◌}
use Rattle.bits.proofs.Member.{member_word}
use Rattle.bits.proofs.set.BitSet.word.Goals as goal

pub returns : goal.returns
returns g c j h = sym (member_word c.words.result c.args.at j h) ∙ c.words.ensures (64 * c.args.at + j)
