use Rattle.model.proofs.theorems.promise_for_some.Goals as goal
use Rattle.model.proofs.Laws.{promise_kept_for, restricted_rows}

pub returns : goal.returns
returns c = record { decides = promise_kept_for; rows = restricted_rows }
