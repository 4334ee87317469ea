use Rattle.std.proofs.Common.{◌*◌, ◌&&◌, ◌||◌, ltb, ap, ◌∙◌, ap₂, arith}
use Rattle.graph.specs.Graphs.{state}
use Rattle.spans.proofs.Resized.{at_index, resized_holders}
use Rattle.spans.proofs.links.view.View.givers.Goals as goal

pub returns : goal.returns
returns g c =
    let v = c.args.self.now in
    let all = v.all in
    λ q.
    c.union.ensures q
    ∙ ap₂ (λ a b. a || b) (c.itself.ensures q)
    (c.resized-granters.ensures q
    ∙ ap (λ b. ltb q (64 * g.row.V) && b)
    (at_index v.granters.now c.from.result _ (omega (arith, c.from.ensures)) q ∙ v.granted c.from.result q ∙ ap (λ p. (state v.graph.now).has q 1 p) c.from.ensures)
    ∙ resized_holders v.graph.now g.row.V v.wide c.args.p 1 q)
