use Rattle.std.proofs.Common.{◌∙◌, inl, inr, arith}
use Rattle.graph.specs.Graphs.{state}
use Rattle.graph.proofs.Sound.{few_vertices, holder_below, target_below}
use Rattle.model.specs.Spans.{can_grant}
use Rattle.model.proofs.Tests.{cases}
use Rattle.witness.specs.Beside.{near}
use Rattle.witness.proofs.Tabled.{tabled}
use Rattle.witness.proofs.tables.beside.Goals as goal

pub returns : goal.returns
returns c =
    let g = c.args.graph.now in
    tabled c.each.result (near (state g))
    (λ u v t. elim (cases (can_grant (state g) u v) _ t) [
      | inl h ↦ omega (arith, few_vertices g, holder_below g u 1 v h)
      | inr h ↦ omega (arith, few_vertices g, target_below g v 1 u h)
    ])
    c.each.ensures.past
    (λ u h v. let row = c.each.ensures.rows u h in row.2 v ∙ grind (arith, row.1, c.requires))
