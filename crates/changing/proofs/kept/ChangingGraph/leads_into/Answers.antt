use Rattle.std.proofs.Common.{◌&&◌, ap, ◌∙◌}
use mathlib.Core.Path.{fun_ext}
use Rattle.bits.specs.Sets.{holds}
use Rattle.model.specs.Bounded.{some_below}
use Rattle.changing.specs.Reached.{of_some}
use Rattle.changing.proofs.kept.ChangingGraph.leads_into.Goals as goal

pub returns : goal.returns
unfolding of_some
returns c =
    record {
      value =
          c.meets.ensures
          ∙ ap (λ f. some_below 256 (λ k. holds c.args.set.now k && f k)) (fun_ext λ k. c.row.ensures.value k ∙ c.args.self.now.led c.args.q k);
    }
