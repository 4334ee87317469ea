use Rattle.std.proofs.Common.{◌≡◌, suc, ◌+◌, ◌-◌, ap, arith, rules}
use Rattle.graph.specs.Graphs.{state}
use Rattle.checker.specs.Reading.{rules_at}
use Rattle.checker.proofs.witness.apply_rules.Goals as goal

pub returns-in_err-apply_act : goal.returns-in_err-apply_act
unfolding rules_at
returns-in_err-apply_act c =
    let turn : c.args.count - c.loop-i.i ≡ suc (c.args.count - (c.loop-i.i + 1)) = omega arith in
    let left = ap (λ m. rules_at m c.args.rules.now.bytes.now c.loop-i.rules.at c.loop-i.i (state c.loop-i.graph)) turn in
    search rules

pub loop-i-preserved : goal.loop-i-preserved
unfolding rules_at
loop-i-preserved c =
    let turn : c.args.count - c.loop-i.i ≡ suc (c.args.count - (c.loop-i.i + 1)) = omega arith in
    let left = ap (λ m. rules_at m c.args.rules.now.bytes.now c.loop-i.rules.at c.loop-i.i (state c.loop-i.graph)) turn in
    search rules
