use Rattle.std.proofs.Common.{◌<◌, ◌≤◌, ◌-◌, length, sym, ap, ◌∙◌, arith, rules}
use Rattle.std.proofs.lemmas.Bool.{leb-true, leb-false}
use Rattle.graph.specs.Graphs.{state}
use Rattle.codec.proofs.Running.{acts_end, acts_turn}
use Rattle.codec.proofs.history.apply_acts.Goals as goal

pub returns-in_err-apply_act : goal.returns-in_err-apply_act
returns-in_err-apply_act c =
    let more : c.loop-acts.acts.at < length c.args.acts.now.bytes.now = omega (arith, leb-false _ _ (sym c.is_done.ensures ∙ c.loop-acts-test.true), ap length c.loop-acts.invariant.input) in
    let turn = acts_turn c.args.acts.now.bytes.now c.loop-acts.acts.at c.loop-acts.count (state c.loop-acts.graph) more c.loop-acts.invariant.many in
    search rules

pub loop-acts-preserved : goal.loop-acts-preserved
loop-acts-preserved c =
    let more : c.loop-acts.acts.at < length c.args.acts.now.bytes.now = omega (arith, leb-false _ _ (sym c.is_done.ensures ∙ c.loop-acts-test.true), ap length c.loop-acts.invariant.input) in
    let turn = acts_turn c.args.acts.now.bytes.now c.loop-acts.acts.at c.loop-acts.count (state c.loop-acts.graph) more c.loop-acts.invariant.many in
    search rules

pub returns : goal.returns
returns c =
    let bs = c.args.acts.now.bytes.now in
    let over : length bs ≤ c.loop-acts.acts.at = omega (arith, leb-true _ _ (sym c.is_done.ensures ∙ c.loop-acts-test.false), ap length c.loop-acts.invariant.input) in
    sym (acts_end bs (length bs - c.loop-acts.count) c.loop-acts.acts.at c.loop-acts.count (state c.loop-acts.graph) over) ∙ c.loop-acts.invariant.left
