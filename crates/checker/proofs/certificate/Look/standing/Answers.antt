use Rattle.std.proofs.Common.{◌∙◌}
use Rattle.bits.specs.Sets.{holds}
use Rattle.graph.specs.Graphs.{state}
use Rattle.graph.proofs.Sound.{only_subjects}
use Rattle.checker.specs.Looking.{certificate}
use Rattle.checker.proofs.Conditions.{standing_fits-law}
use Rattle.checker.proofs.certificate.Look.standing.Goals as goal

pub returns : goal.returns
returns c =
    standing_fits-law (state c.args.self.now.graph.now) (holds c.args.self.now.claim.now.holders) (certificate c.args.self.now.sets.now) c.args.p _ _ _ _ _
    (c.is_subject.ensures.value ∙ only_subjects c.args.self.now.graph.now c.args.p) c.contains.ensures c.contains-2.ensures c.contains-3.ensures c.contains-4.ensures
