use Rattle.std.proofs.Common.{◌∙◌, rules, tests}
use Rattle.std.proofs.lemmas.Iterator.Search.{any_from_yields_List}
use Rattle.bits.specs.Sets.{holds}
use Rattle.bits.proofs.Chain.{YieldsList-from_members, any_members}
use Rattle.changing.specs.Of.{tracked}
use Rattle.changing.specs.Reached.{of_some}
use Rattle.changing.proofs.kept.ChangingGraph.one_has.Goals as goal

pub returns : goal.returns
unfolding of_some
returns c =
    record {
      value =
          any_from_yields_List (λ t. (tracked c.args.self.now).has t c.args.r c.args.y) _ _ c.any.result c.any.ensures.ran
          (YieldsList-from_members c.iter.result c.args.set c.iter.ensures) (λ x b q k. search (rules, tests))
          ∙ any_members 256 (holds c.args.set) (λ t. (tracked c.args.self.now).has t c.args.r c.args.y);
    }
