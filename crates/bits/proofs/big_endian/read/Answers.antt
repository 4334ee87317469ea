use Rattle.std.proofs.Common.{◌∙◌, refl, ap, arith}
use Rattle.bits.proofs.Packed.{read_all, read_more, read_none}
use Rattle.bits.proofs.big_endian.read.Goals as goal

pub loop-j-init : goal.loop-j-init
loop-j-init c =
    let iterator = c.into_iter-j-iterator.ensures.into_iter_gives in
    let whole = ap (λ e. e.iter.iter.rest.now) iterator ∙ ap (λ r. r.iter.rest.now) c.enumerate-j-items.ensures.source ∙ ap (λ i. i.rest.now) c.rev.ensures.source ∙ c.iter.ensures.rest in
    (refl, read_none c.args.bytes.now _ 4 _ whole (ap (λ e. e.count) iterator ∙ c.enumerate-j-items.ensures.count))

pub loop-j-preserved : goal.loop-j-preserved
loop-j-preserved c =
    let steps = c.in-Some.ensures.steps in (
      omega arith,
      read_more c.args.bytes.now _ c.next.new.self.iter.iter.rest.now c.loop-j.words c.add_byte.new.words c.loop-j.j-iterator.count c.in-Some.j c.next.new.self.count c.in-Some.byte.now
          c.loop-j.invariant.1 steps.0 steps.1 steps.2 c.add_byte.ensures,
    )

pub returns : goal.returns
returns c = read_all c.args.bytes.now _ c.loop-j.words c.loop-j.j-iterator.count c.in-None.ensures.steps.0.0 c.loop-j.invariant.1
