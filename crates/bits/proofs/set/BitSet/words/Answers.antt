use Rattle.std.proofs.Common.{sym, arith}
use Rattle.bits.proofs.Holds.{among_words}
use Rattle.bits.proofs.set.BitSet.words.Goals as goal

pub returns : goal.returns
returns g c = λ k. sym (among_words g.row.W c.args.self.now k (omega arith))
