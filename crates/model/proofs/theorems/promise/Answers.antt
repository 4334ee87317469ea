use Rattle.model.proofs.theorems.promise.Goals as goal
use Rattle.model.proofs.Laws.{promise_kept}

pub returns : goal.returns
returns c = promise_kept
