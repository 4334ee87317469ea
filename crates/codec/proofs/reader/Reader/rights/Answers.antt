use Rattle.std.proofs.Common.{◌≡◌, suc, ◌+◌, ◌-◌, cond, ap, ◌∙◌, arith, rules}
use Rattle.std.proofs.lemmas.Bool.{lt-ltb, and_from}
use Rattle.model.specs.Rules.{given}
use Rattle.graph.specs.Graphs.{state}
use Rattle.codec.specs.Books.{rights_at}
use Rattle.codec.proofs.reader.Reader.rights.Goals as goal

pub returns-in_err-held-clause-value : goal.returns-in_err-held-clause-value
unfolding rights_at
returns-in_err-held-clause-value c =
    let turn : c.args.count - c.loop.counter ≡ suc (c.args.count - (c.loop.counter + 1)) = omega arith in
    let left = ap (λ m. rights_at c.args.self.now.bytes.now (state c.args.graph.now).size c.args.p m c.loop.least c.loop.self.at (state c.loop.graph)) turn in
    search rules

pub loop-preserved : goal.loop-preserved
unfolding rights_at
loop-preserved c =
    let held = c.in_ok-held.held in
    let there = c.in_ok-held.ensures.made in
    let a = lt-ltb c.args.p (state c.loop.graph).size (omega (arith, c.requires, c.loop.invariant.size)) in
    let b = lt-ltb held.right 8 there.0 in
    let d = lt-ltb held.to (state c.loop.graph).size (omega (arith, there.1, c.size.ensures.value)) in
    let given-it = c.give.ensures.after ∙ ap (λ t. cond t (given c.args.p held.right held.to (state c.loop.graph)) (state c.loop.graph)) (c.give.ensures.value ∙ and_from _ _ a (and_from _ _ b d)) in
    let turn : c.args.count - c.loop.counter ≡ suc (c.args.count - (c.loop.counter + 1)) = omega arith in
    let left = ap (λ m. rights_at c.args.self.now.bytes.now (state c.args.graph.now).size c.args.p m c.loop.least c.loop.self.at (state c.loop.graph)) turn in
    search rules
