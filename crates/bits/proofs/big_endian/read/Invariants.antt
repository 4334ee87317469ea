use Rattle.std.proofs.Common.{◌≡◌, length}
use Rattle.bits.proofs.Packed.{Read}
use Rattle.bits.proofs.big_endian.read.Given as goal

abbrev pub invariant-loop-j : goal.invariant-loop-j
invariant-loop-j l = (length l.words ≡ 4) × Read l.bytes l.j-iterator.iter.iter.rest.now l.words l.j-iterator.count
