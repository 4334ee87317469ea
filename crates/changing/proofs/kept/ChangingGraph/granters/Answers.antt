use Rattle.std.proofs.Common.{arith, rules}
use Rattle.bits.specs.Sets.{holds}
use Rattle.graph.proofs.Sound.{holder_below}
use Rattle.model.specs.Spans.{can_grant}
use Rattle.changing.specs.Of.{tracked}
use Rattle.changing.specs.Reached.{of_some}
use Rattle.changing.proofs.Tested.{listed_all, some_to}
use Rattle.changing.proofs.kept.ChangingGraph.granters.Goals as goal

pub returns : goal.returns
returns c =
    record {
      value =
          listed_all (of_some (holds c.args.set.now) (λ o p. can_grant (tracked c.args.self.now) p o)) (holds c.those.result) c.size.result
          c.those.ensures.below (λ v l. let test = c.those.ensures.tested v l in search rules)
          (λ v t. let k = some_to (holds c.args.set.now) (λ o p. can_grant (tracked c.args.self.now) p o) v t in
          let l = holder_below c.args.self.now.graph v 1 k.at k.other in omega (arith, c.size.ensures.value));
    }
