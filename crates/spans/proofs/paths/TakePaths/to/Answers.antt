use Rattle.std.proofs.Common.{ap, ◌∙◌}
use Rattle.bits.specs.Sets.{in_row}
use Rattle.spans.proofs.paths.TakePaths.to.Goals as goal

pub returns : goal.returns
unfolding in_row
returns c = record { value = λ k. ap (λ y. in_row c.args.self.now.back y k) c.from.ensures ∙ c.args.self.now.reached c.args.y k }
