use Rattle.std.proofs.Common.{◌∙◌, rules, arith}
use Rattle.graph.specs.Graphs.{state}
use Rattle.bits.specs.Sets.{in_row}
use Rattle.graph.proofs.Sound.{holder_below}
use Rattle.spans.proofs.Entered.{all_below_agree}
use Rattle.spans.proofs.turned.holders.Goals as goal

pub returns : goal.returns
returns c = λ y.
    all_below_agree c.size.result (in_row c.turned.result y) (λ k. (state c.args.graph.now).has k c.args.r y) (c.turned.ensures.below y)
    (λ k t. let h = holder_below c.args.graph.now k c.args.r y t in omega (arith, c.size.ensures.value))
    (λ k h. let row = c.turned.ensures.rows k h in row.2 y ∙ search (rules, row.1))
