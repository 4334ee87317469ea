use Rattle.std.proofs.Common.{◌≤◌, ◌&&◌, ap, ◌∙◌, arith}
use mathlib.Core.Path.{fun_ext}
use Rattle.bits.specs.Sets.{holds, in_row}
use Rattle.graph.proofs.Sound.{few_vertices, well_formed-law}
use Rattle.model.specs.Exact.{lowest}
use Rattle.model.specs.Spans.{take_path}
use Rattle.spans.specs.Paths.{path_from}
use Rattle.witness.specs.Beside.{beside_some}
use Rattle.witness.specs.Of.{routed}
use Rattle.witness.proofs.Bridging.{beside_is}
use Rattle.witness.proofs.Choosing.{near_is}
use Rattle.witness.proofs.routes.Routes.near_end.Goals as goal

pub returns : goal.returns
returns c =
    let r = c.args.self.now in
    let s = routed r in
    let wf = well_formed-law r.graph.now in
    let few : s.size ≤ 256 = omega (arith, few_vertices r.graph.now) in
    let ahead = fun_ext (λ v. c.from.ensures.value v ∙ ap (λ z. path_from z c.args.q v) r.same_paths) in
    record {
      value =
          c.lowest_ahead.ensures.value
          ∙ ap (lowest s.size)
          (fun_ext (λ u. ap (λ b. take_path s c.args.p u && b)
          (c.gather.ensures u ∙ beside_is s wf few (in_row r.beside) r.sides (holds c.from.result) u ∙ ap (λ f. beside_some s f u) ahead)))
          ∙ near_is s wf c.args.p c.args.q;
    }
