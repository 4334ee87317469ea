use Rattle.std.proofs.Common.{arith}
use Rattle.std.proofs.lemmas.Bool.Decides.{nat_tests}
use Rattle.bits.proofs.Holds.{among_room}
use Rattle.bits.proofs.set.BitSet.pick.Goals as goal

pub returns : goal.returns
returns g c k =
    let both = c.intersection.ensures k in
    let one = c.only.ensures k in
    let room = among_room g.row.W c.args.self.now k in
    grind (arith, nat_tests)
