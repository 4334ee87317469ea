use Rattle.std.proofs.Common.{◌&&◌, ◌∙◌, ap₂}
use Rattle.graph.proofs.Sound.{only_subjects}
use Rattle.spans.specs.Of.{spanned}
use Rattle.spans.proofs.Spanning.{initial_is}
use Rattle.spans.proofs.paths.TakePaths.initial.Goals as goal

pub returns : goal.returns
returns c =
    record {
      value = λ q.
          c.intersection.ensures q
          ∙ ap₂ (λ a b. a && b) (c.subjects.ensures.value q ∙ only_subjects c.args.self.now.graph.now q) (c.back_from.ensures.value q)
          ∙ initial_is (spanned c.args.self.now) q c.args.x;
    }
