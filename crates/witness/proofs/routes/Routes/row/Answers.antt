use Rattle.std.proofs.Common.{◌≡◌, sym, ◌∙◌, arith}
use Rattle.bits.specs.Sets.{holds, in_row}
use Rattle.model.specs.Spans.{bridge}
use Rattle.witness.specs.Of.{routed}
use Rattle.witness.proofs.Relation.{row_of}
use Rattle.witness.proofs.routes.Routes.row.Goals as goal

pub shortest_row-requires-clause-ahead : goal.shortest_row-requires-clause-ahead
unfolding in_row
shortest_row-requires-clause-ahead c p set h k z =
    let r = c.args.self.now in
    let told : holds set z ≡ in_row r.bridges p z = grind (arith, k) in
    told ∙ r.bridged p z ∙ sym (c.over_bridges.ensures.steps p z)

pub returns : goal.returns
returns c =
    let s = routed c.args.self.now in
    let b = c.over_bridges in
    record { value = row_of b.result.size s.size b.ensures.size b.result.back.now (bridge s) b.ensures.steps c.args.p c.args.q _ c.shortest_row.ensures }
