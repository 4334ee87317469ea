use Rattle.std.proofs.Common.{◌≤◌, sym, ◌∙◌, arith}
use Rattle.bits.specs.Sets.{holds, in_row}
use Rattle.graph.specs.Graphs.{state}
use Rattle.graph.proofs.Sound.{few_vertices, only_subjects, well_formed-law}
use Rattle.spans.specs.Of.{spanned}
use Rattle.witness.proofs.Bridging.{beside_is, bridge_found, no_bridge}
use Rattle.witness.proofs.tables.bridges_from.Goals as goal

pub returns-then-not-is_subject : goal.returns-then-not-is_subject
returns-then-not-is_subject c q =
    let g = c.args.graph.now in
    c.empty.ensures q ∙ no_bridge (state g) c.args.p (sym (only_subjects g c.args.p) ∙ sym c.if-not-is_subject.ensures.value) q

pub returns : goal.returns
returns c q =
    let g = c.args.graph.now in
    let s = state g in
    let wf = well_formed-law g in
    let few : s.size ≤ 256 = omega (arith, few_vertices g) in
    bridge_found s wf few (spanned c.args.paths.now) c.requires.same c.args.p
    (sym (only_subjects g c.args.p) ∙ sym c.if-not-is_subject.ensures.value)
    (holds c.from-ahead.result) (holds c.gather.result) (in_row c.to_each.result.now) c.from-ahead.ensures.value
    (λ v. c.gather.ensures v ∙ beside_is s wf few (in_row c.args.beside.now) c.requires.sides (holds c.from-ahead.result) v)
    c.to_each.ensures.value
    q (holds c.subjects.result q) (holds c.to.result q) (holds c.union.result q)
    (holds c.gather-met.result q) (holds c.union-joined.result q) (holds c.intersection.result q)
    (c.subjects.ensures.value q ∙ only_subjects g q) (c.to.ensures.value q) (c.gather-met.ensures q) (c.union.ensures q) (c.union-joined.ensures q)
    (c.intersection.ensures q)
