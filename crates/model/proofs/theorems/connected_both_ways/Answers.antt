use Rattle.model.proofs.theorems.connected_both_ways.Goals as goal
use Rattle.model.proofs.Symmetry.{connected_both_ways, passive_object}

pub returns : goal.returns
returns c = record { same = connected_both_ways; passive = passive_object }
