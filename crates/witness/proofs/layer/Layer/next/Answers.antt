use Rattle.std.proofs.Common.{arith}
use Rattle.bits.specs.Sets.{holds}
use Rattle.witness.proofs.Layers.{layer_more}
use Rattle.witness.proofs.layer.Layer.next.Goals as goal

pub returns : goal.returns
returns c y k is =
    let s = c.args.steps.now in
    layer_more s.size s.back.now y s.fits (omega (arith, s.few)) k c.args.self.now _ (holds c.gather.result) c.gather.ensures c.union-near.ensures c.difference-fresh.ensures is
