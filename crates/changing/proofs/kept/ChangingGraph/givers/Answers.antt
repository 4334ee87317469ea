use Rattle.std.proofs.Common.{◌&&◌, ◌||◌, ap, ◌∙◌, ap₂}
use Rattle.bits.specs.Sets.{holds}
use Rattle.graph.proofs.Sound.{only_subjects}
use Rattle.changing.proofs.kept.ChangingGraph.givers.Goals as goal

pub returns : goal.returns
returns c =
    record {
      value = λ v.
          c.union.ensures v
          ∙ ap₂ (λ a b. a || b) (c.granters.ensures.value v)
          (c.intersection.ensures v ∙ ap (λ b. b && holds c.args.set.now v) (c.subjects.ensures.value v ∙ only_subjects c.args.self.now.graph v));
    }
