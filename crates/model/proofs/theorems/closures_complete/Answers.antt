use Rattle.model.proofs.theorems.closures_complete.Goals as goal
use Rattle.model.proofs.Laws.{closure_complete, closure_is, closed_set_is}

pub returns : goal.returns
returns c = record { complete = closure_complete; value = closure_is; closed = closed_set_is }
