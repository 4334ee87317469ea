use Rattle.std.proofs.Common.{◌&&◌, ap, ◌∙◌, ap₂}
use mathlib.Core.Path.{fun_ext}
use Rattle.bits.specs.Sets.{holds}
use Rattle.graph.proofs.Sound.{well_formed-law}
use Rattle.model.specs.Exact.{lowest}
use Rattle.spans.specs.Paths.{path_from}
use Rattle.witness.specs.Of.{routed}
use Rattle.witness.proofs.Choosing.{on_path}
use Rattle.witness.proofs.routes.Routes.lowest_ahead.Goals as goal

pub returns : goal.returns
returns c =
    let r = c.args.self.now in
    record {
      value =
          c.lowest_of.ensures
          ∙ ap₂ lowest c.size.ensures.value
          (fun_ext (λ u. c.intersection.ensures u ∙ ap (λ b. b && holds c.args.set.now u) (c.from.ensures.value u ∙ ap (λ z. path_from z c.args.p u) r.same_paths)))
          ∙ on_path (routed r) (well_formed-law r.graph.now) c.args.p (holds c.args.set.now);
    }
