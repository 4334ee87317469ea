use Rattle.std.proofs.Common.{rules}
use Rattle.bits.specs.Sets.{holds}
use Rattle.changing.specs.Rows.{in_rows}
use Rattle.changing.proofs.Tested.{listed}
use Rattle.changing.proofs.rows.Rows.holding.Goals as goal

pub returns : goal.returns
returns c =
    listed (λ v. in_rows c.args.self.now v c.args.k) (holds c.those.result) c.args.n c.those.ensures.below
    (λ v l. let test = c.those.ensures.tested v l in search rules)
