use Rattle.std.proofs.Common.{◌&&◌, refl, ◌∙◌, ap₂}
use mathlib.Core.Path.{fun_ext}
use Rattle.graph.proofs.Sound.{well_formed-law}
use Rattle.model.specs.Exact.{lowest}
use Rattle.witness.specs.Of.{routed}
use Rattle.witness.proofs.Choosing.{last_is}
use Rattle.witness.proofs.ends.Ends.over.Goals as goal

pub returns : goal.returns
returns c =
    let routes = c.args.routes.now in
    let s = routed routes in
    record {
      holder = refl;
      last =
          c.lowest_of-last.ensures
          ∙ ap₂ lowest c.size-size.ensures.value
          (fun_ext (λ q. c.intersection.ensures q ∙ ap₂ (λ a b. a && b) (c.terminal.ensures.value q) (c.requires.inner q)))
          ∙ last_is s (well_formed-law routes.graph.now) c.args.x c.args.holder;
      first =
          c.lowest_of-first.ensures
          ∙ ap₂ lowest c.size-size.ensures.value
          (fun_ext (λ p. c.intersection-2.ensures p ∙ ap₂ (λ a b. a && b) (c.initial.ensures.value p) (c.island.ensures.value p)));
    }
