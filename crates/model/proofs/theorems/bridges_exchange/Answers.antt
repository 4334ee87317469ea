use Rattle.model.proofs.theorems.bridges_exchange.Goals as goal
use Rattle.model.proofs.Exchange.{exchange}

pub returns : goal.returns
returns c = exchange
