use Rattle.std.proofs.Common.{◌≡◌, true, ◌&&◌, T, ap, ◌∙◌, subst}
use Rattle.graph.proofs.Sound.{well_formed-law, only_subjects}
use Rattle.model.specs.Spans.{connected}
use Rattle.model.specs.State.{is_subject}
use Rattle.spans.specs.Of.{linked}
use Rattle.spans.proofs.Islands.{island_is}
use Rattle.spans.proofs.links.Links.island.Goals as goal

pub returns-then-is_subject : goal.returns-then-is_subject
returns-then-is_subject c =
    let s = linked c.args.self.now in
    let g = c.args.self.now.graph.now in
    let acts : true ≡ is_subject s c.args.p = c.if-is_subject.ensures.value ∙ only_subjects g c.args.p in
    record {
      value = λ q.
          c.barrier.ensures.inner q
          ∙ island_is s (well_formed-law g) c.args.p (subst T acts tt) q
          ∙ ap (λ b. b && connected s c.args.p q) acts;
    }

pub returns-else-is_subject : goal.returns-else-is_subject
returns-else-is_subject c =
    let s = linked c.args.self.now in
    record {
      value = λ q.
          c.empty.ensures q
          ∙ ap (λ b. b && connected s c.args.p q) (c.if-is_subject.ensures.value ∙ only_subjects c.args.self.now.graph.now c.args.p);
    }
