use Rattle.std.proofs.Common.{◌∙◌, ap₂}
use mathlib.Core.Path.{fun_ext}
use Rattle.model.specs.Closure.{within}
use Rattle.model.specs.Spans.{connected}
use Rattle.witness.proofs.routes.Routes.island.Goals as goal

pub returns : goal.returns
unfolding connected
returns c = record {
  value = λ p. c.all_leading.ensures p
      ∙ ap₂ (λ n e. within n n e p c.args.q) c.over_bridges.ensures.size (fun_ext (λ x. fun_ext (c.over_bridges.ensures.steps x)));
}
