use Rattle.std.proofs.Common.{ap, ◌∙◌}
use Rattle.model.specs.Spans.{can_take}
use Rattle.witness.specs.Of.{routed}
use Rattle.witness.proofs.Relation.{table_fits}
use Rattle.graph.proofs.Sound.{well_formed-law}
use Rattle.witness.proofs.routes.Routes.path.Goals as goal

pub of-steps-requires : goal.of-steps-requires
of-steps-requires c =
    let r = c.args.self.now in
    table_fits c.size.result (routed r).size c.size.ensures.value c.takers_of_each.result.now (can_take (routed r))
    (λ x z. c.takers_of_each.ensures.value z x ∙ ap (λ s. can_take s x z) r.same_links)
    (λ x z t. ((well_formed-law r.graph.now).holder x 0 z t, (well_formed-law r.graph.now).target x 0 z t))
