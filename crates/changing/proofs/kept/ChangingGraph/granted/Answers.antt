use Rattle.std.proofs.Common.{rules}
use Rattle.model.specs.Spans.{can_grant}
use Rattle.changing.specs.Of.{tracked}
use Rattle.changing.specs.Reached.{of_some}
use Rattle.changing.proofs.kept.ChangingGraph.granted.Goals as goal

pub returns : goal.returns
unfolding of_some
returns c = record { value = c.united.ensures (can_grant (tracked c.args.self.now)) (λ o set t told v. search rules) }
