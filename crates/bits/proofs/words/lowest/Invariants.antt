use Rattle.bits.proofs.Scan.{Clear}
use Rattle.bits.proofs.words.lowest.Given as goal

abbrev pub invariant-loop-i : goal.invariant-loop-i
invariant-loop-i l = Clear l.words l.i
