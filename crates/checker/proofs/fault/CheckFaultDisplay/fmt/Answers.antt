use Rattle.checker.proofs.fault.CheckFaultDisplay.fmt.Goals as goal

pub returns-in-UnfitRight-clause-writes : goal.returns-in-UnfitRight-clause-writes
returns-in-UnfitRight-clause-writes g c = rw c.in-UnfitRight.is c.write-in-UnfitRight.ensures.writes

pub returns-in-TooLong-clause-writes : goal.returns-in-TooLong-clause-writes
returns-in-TooLong-clause-writes g c = rw c.in-TooLong.is c.write-in-TooLong.ensures.writes
