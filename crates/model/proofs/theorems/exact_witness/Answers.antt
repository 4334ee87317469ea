use Rattle.model.proofs.theorems.exact_witness.Goals as goal
use Rattle.model.proofs.ExactLaws.{exact_is_witness}

pub returns : goal.returns
returns c = exact_is_witness
