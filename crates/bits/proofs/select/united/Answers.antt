use Rattle.std.proofs.Common.{ap, ◌∙◌}
use Rattle.bits.specs.Members.{left}
use Rattle.bits.specs.Sets.{holds}
use Rattle.model.proofs.Tests.{from_true}
use Rattle.bits.proofs.Gathered.{gathered_none, gathered_more, gathered_all}
use Rattle.bits.proofs.Holds.{among_below}
use Rattle.bits.proofs.select.united.Goals as goal

pub loop-v-init : goal.loop-v-init
loop-v-init g c rows told =
    let whole = ap left c.into_iter-v-iterator.ensures.into_iter_gives ∙ c.iter-v-items.ensures in
    gathered_none (holds c.args.set.now) rows (holds c.empty-all.result) (holds (left c.into_iter-v-iterator.result)) c.empty-all.ensures (λ k. ap (λ s. holds s k) whole)

pub loop-v-preserved : goal.loop-v-preserved
loop-v-preserved g c rows told =
    let turn = c.in-Some.ensures.steps in
    let rest = left c.loop-v.v-iterator in
    let v = c.in-Some.v in
    let before = c.loop-v.invariant rows told in
    let here = from_true (holds rest v) turn.0 in
    gathered_more (holds c.args.set.now) rows (holds c.loop-v.all) (holds rest) (holds c.add.new.self) (holds (left c.next.new.self)) (holds c.of.result) v
    (among_below 4 rest v turn.0) here turn.2 (told v c.of.result (before.part v here) c.of.ensures) c.add.ensures before

pub returns : goal.returns
returns g c rows told = gathered_all (holds c.args.set.now) rows (holds c.loop-v.all) (holds (left c.loop-v.v-iterator)) c.in-None.ensures.steps.0 (c.loop-v.invariant rows told)
