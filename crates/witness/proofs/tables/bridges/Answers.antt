use Rattle.std.proofs.Common.{◌∙◌, rules, arith}
use Rattle.graph.specs.Graphs.{state}
use Rattle.graph.proofs.Sound.{few_vertices}
use Rattle.model.specs.Spans.{bridge}
use Rattle.model.proofs.Readings.{bridge_to, subject_vertex}
use Rattle.witness.proofs.Tabled.{tabled}
use Rattle.witness.proofs.tables.bridges.Goals as goal

pub returns : goal.returns
returns c =
    let g = c.args.graph.now in
    tabled c.each.result (bridge (state g)) (λ p q t. omega (arith, subject_vertex (state g) p (bridge_to (state g) p q t).one, few_vertices g)) c.each.ensures.past
    (λ p h q. let row = c.each.ensures.rows p h in row.2 q ∙ search (rules, row.1))
