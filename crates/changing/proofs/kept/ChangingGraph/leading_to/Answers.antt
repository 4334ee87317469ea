use Rattle.std.proofs.Common.{◌&&◌, ltb, ap, ◌∙◌, ap₂}
use Rattle.spans.proofs.Spanning.{path_vertex}
use Rattle.changing.specs.Of.{tracked}
use Rattle.changing.proofs.kept.ChangingGraph.leading_to.Goals as goal

pub returns : goal.returns
returns c =
    record {
      value = λ k.
          c.holding.ensures k
          ∙ ap₂ (λ a b. a && b) (ap (ltb k) c.size.ensures.value) (c.args.self.now.led k c.args.v)
          ∙ path_vertex (tracked c.args.self.now) k c.args.v;
    }
