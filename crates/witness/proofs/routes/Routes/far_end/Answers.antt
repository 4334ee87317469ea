use Rattle.std.proofs.Common.{◌&&◌, ap, ◌∙◌}
use mathlib.Core.Path.{fun_ext}
use Rattle.bits.specs.Sets.{in_row}
use Rattle.model.specs.Exact.{lowest}
use Rattle.model.specs.Spans.{take_path}
use Rattle.witness.specs.Of.{routed}
use Rattle.witness.proofs.routes.Routes.far_end.Goals as goal

pub returns : goal.returns
unfolding in_row
returns c =
    let r = c.args.self.now in
    let s = routed r in
    record { value = c.lowest_ahead.ensures.value ∙ ap (lowest s.size) (fun_ext (λ v. ap (λ b. take_path s c.args.q v && b) (r.sides c.args.u v))) }
