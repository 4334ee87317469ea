use Rattle.std.proofs.Common.{◌∙◌}
use Rattle.bits.specs.Sets.{holds}
use Rattle.checker.proofs.Conditions.{one_held}
use Rattle.checker.proofs.certificate.Look.has_one.Goals as goal

pub returns : goal.returns
returns c =
    c.meets.ensures ∙
    one_held c.args.self.now.graph.now c.args.p c.args.self.now.claim.now.right (holds c.args.self.now.claim.now.targets) (holds c.targets.result) c.targets.ensures.value
