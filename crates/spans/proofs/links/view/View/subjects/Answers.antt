use Rattle.std.proofs.Common.{◌*◌, ◌&&◌, ltb, ap, ◌∙◌}
use Rattle.spans.proofs.Resized.{resized_subjects}
use Rattle.spans.proofs.links.view.View.subjects.Goals as goal

pub returns : goal.returns
returns g c =
    let v = c.args.self.now in
    λ q. c.resized.ensures q ∙ ap (λ b. ltb q (64 * g.row.V) && b) (c.subjects.ensures.value q) ∙ resized_subjects v.graph.now g.row.V v.wide q
