use Rattle.std.proofs.Common.{◌&&◌, rules}
use Rattle.bits.specs.Sets.{holds}
use Rattle.spans.specs.Paths.{path_from}
use Rattle.changing.specs.Of.{tracked}
use Rattle.changing.specs.Reached.{leads_into, of_some}
use Rattle.changing.proofs.kept.ChangingGraph.reached.Goals as goal

pub returns : goal.returns
unfolding of_some
returns c =
    let s = tracked c.args.self.now in
    record { value = c.united.ensures (λ q t. leads_into s (holds c.args.set.now) q && path_from s q t) (λ q set t told o. search rules) }
