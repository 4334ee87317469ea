use Rattle.std.proofs.Common.{◌≡◌, ◌*◌, sym, ap, ◌∙◌, arith}
use Rattle.std.proofs.lemmas.Bool.{lt-ltb}
use Rattle.bits.proofs.Holds.{below_fits}
use Rattle.model.proofs.Tests.{from_true, all_at, implied}
use Rattle.graph.specs.Graphs.{state}
use Rattle.graph.proofs.Rows.{width_covers}
use Rattle.graph.proofs.Sound.{few_vertices}
use Rattle.spans.specs.Viewed.{viewed}
use Rattle.spans.proofs.Searched.{out_found, all_found}
use Rattle.spans.proofs.links.search.reach.Goals as goal

pub returns-else-step : goal.returns-else-step
returns-else-step g c =
    let t = c.step.new.self in
    let about = ap viewed (c.step.ensures.same.0 ∙ c.loop-search.invariant.0 ∙ c.of-search.ensures.0) ∙ c.of-view.ensures in
    let from : t.from ≡ c.args.x = c.step.ensures.same.1 ∙ c.loop-search.invariant.1 in
    let over = c.step.ensures.over c.if-step.false in
    record { value = out_found g.row.W g.row.W c.args.graph.now c.args.x t about from over.0 over.1 }

pub returns-after-loop-search : goal.returns-after-loop-search
returns-after-loop-search g c =
    let t = c.loop-search.search in
    let about = ap viewed (c.loop-search.invariant.0 ∙ c.of-search.ensures.0) ∙ c.of-view.ensures in
    let every = below_fits g.row.W c.size.result c.below-every.result (omega (arith, width_covers (state c.args.graph.now).size (few_vertices c.args.graph.now), c.requires.exact, c.size.ensures.value)) c.below-every.ensures in
    record {
      value = all_found g.row.W g.row.W c.args.graph.now c.args.x t about c.loop-search.invariant.1 (λ k h.
          implied _ _ (all_at (64 * g.row.W) _ (from_true _ (sym c.is_subset.ensures ∙ c.loop-search-test.false)) k (omega (arith, width_covers (state c.args.graph.now).size (few_vertices c.args.graph.now), c.requires.exact)))
          (from_true _ (every k ∙ lt-ltb k c.size.result (omega (arith, c.size.ensures.value)))));
    }
