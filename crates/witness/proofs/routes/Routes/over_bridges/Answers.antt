use Rattle.std.proofs.Common.{ap, ◌∙◌}
use Rattle.witness.specs.Rows.{turned}
use Rattle.witness.proofs.Relation.{bridges_fit, bridges_turned}
use Rattle.witness.proofs.routes.Routes.over_bridges.Goals as goal

pub of-requires : goal.of-requires
of-requires c = bridges_fit c.args.self.now c.size.result c.size.ensures.value

pub returns-clause-steps : goal.returns-clause-steps
returns-clause-steps c p q = ap (λ table. turned table p q) c.of.ensures.back ∙ bridges_turned c.args.self.now p q
