use Rattle.bits.proofs.Turn.{goes}
use Rattle.bits.proofs.members.MembersIterator.next.Goals as goal

pub returns-clause-goes : goal.returns-clause-goes
returns-clause-goes g c = goes g.row.W c.args.self.now c.pop.result (record { rest = c.pop.new.self }) c.requires c.pop.ensures
