use Rattle.std.proofs.Common.{◌++◌, sym, ap, ◌∙◌}
use Rattle.sharing.specs.Of.{answered}
use Rattle.answers.specs.Lines.{counts_of, table_of}
use Rattle.answers.proofs.Written.{table_more}
use Rattle.answers.proofs.table.table.Goals as goal

pub loop-y-init : goal.loop-y-init
unfolding table_of
loop-y-init c = c.new-text.ensures.bytes

pub loop-y-preserved : goal.loop-y-preserved
loop-y-preserved c =
    let s = answered c.args.sharing.now in
    c.in_ok-write_counts.ensures ∙ ap (λ t. t ++ counts_of s c.loop-y.y 8) c.loop-y.invariant ∙ sym (table_more s c.loop-y.y)
