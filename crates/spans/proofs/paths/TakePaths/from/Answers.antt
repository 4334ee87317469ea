use Rattle.std.proofs.Common.{ap, ◌∙◌}
use Rattle.bits.specs.Sets.{in_row}
use Rattle.spans.proofs.paths.TakePaths.from.Goals as goal

pub returns : goal.returns
unfolding in_row
returns c = record { value = λ k. ap (λ x. in_row c.args.self.now.rows x k) c.from.ensures ∙ c.args.self.now.led c.args.x k }
