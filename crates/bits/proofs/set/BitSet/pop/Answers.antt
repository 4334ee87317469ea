use Rattle.std.proofs.Common.{arith}
use Rattle.std.proofs.lemmas.Bool.Decides.{nat_tests}
use Rattle.bits.proofs.Holds.{among_room}
use Rattle.bits.proofs.set.BitSet.pop.Goals as goal

pub returns : goal.returns
returns g c =
    let v = c.in_ok-v.v in (
      c.in_ok-v.ensures.0,
      c.in_ok-v.ensures.1,
      λ k.
          let rest = c.difference.ensures k in
          let one = c.only-one.ensures k in
          let room = among_room g.row.W c.args.self.now k in
          let same = c.from.ensures in
          grind (arith, nat_tests),
    )
