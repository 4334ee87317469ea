use Rattle.std.proofs.Common.{◌≡◌, ◌∙◌, rules}
use Rattle.std.specs.Option.{option_map}
use Rattle.bits.specs.Sets.{holds}
use Rattle.checker.proofs.First.{first_lowest}
use Rattle.checker.specs.declared.fault.CheckFault.TheVariants.{UnfitRight}
use Rattle.checker.proofs.certificate.first_right.Goals as goal

pub returns : goal.returns
returns c n f same below =
    let made : c.map.result ≡ option_map (UnfitRight c.args.p c.args.right) c.lowest.result = search rules in
    made ∙ first_lowest n f (holds c.args.unfit.now) (UnfitRight c.args.p c.args.right) c.lowest.result same below c.lowest.ensures
