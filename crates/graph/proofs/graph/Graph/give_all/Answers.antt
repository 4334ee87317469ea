-- What is given up to right r, and one right more or none.
use Rattle.std.proofs.Common.{sym, ap, ◌∙◌}
use Rattle.graph.specs.Graphs.{state}
use Rattle.model.specs.Rules.{given}
use Rattle.graph.proofs.Created.{gifted_none, gifted_more, gifted_skip}
use Rattle.graph.proofs.graph.Graph.give_all.Goals as goal
use Rattle.graph.proofs.graph.Graph.give_all.Goals.{then-has_bit, else-has_bit}

pub loop-r-init : goal.loop-r-init
loop-r-init c = gifted_none c.args.p c.args.rights c.args.q (state c.args.self.now)

pub loop-r-preserved : goal.loop-r-preserved
loop-r-preserved c =
    elim c.if-has_bit.branch [
      | then-has_bit w ↦
          ap state w.self-is ∙
          (w.add.ensures.after ∙
          (ap (given c.args.p c.loop-r.r c.args.q) c.loop-r.invariant ∙
          gifted_more c.args.p c.args.rights c.args.q c.loop-r.r (state c.args.self.now) (sym c.has_bit.ensures ∙ w.if-has_bit.true)))
      | else-has_bit w ↦
          ap state w.self-is ∙
          (c.loop-r.invariant ∙
          gifted_skip c.args.p c.args.rights c.args.q c.loop-r.r (state c.args.self.now) (sym c.has_bit.ensures ∙ w.if-has_bit.false))
    ]
