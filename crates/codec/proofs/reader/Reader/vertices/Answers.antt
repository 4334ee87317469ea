use Rattle.std.proofs.Common.{◌≡◌, suc, ◌+◌, ◌-◌, ap, arith, rules}
use Rattle.graph.specs.Graphs.{state}
use Rattle.codec.specs.Books.{vertices_at}
use Rattle.codec.proofs.reader.Reader.vertices.Goals as goal

pub returns-in_err-count : goal.returns-in_err-count
unfolding vertices_at
returns-in_err-count c =
    let n = (state c.args.graph.now).size in
    let turn : n - c.loop-p.p ≡ suc (n - (c.loop-p.p + 1)) = omega (arith, c.size-p-end.ensures.value) in
    let left = ap (λ m. vertices_at c.args.self.now.bytes.now n c.loop-p.p m c.loop-p.self.at (state c.loop-p.graph)) turn in
    search rules

pub returns-in_err-rights : goal.returns-in_err-rights
unfolding vertices_at
returns-in_err-rights c =
    let n = (state c.args.graph.now).size in
    let turn : n - c.loop-p.p ≡ suc (n - (c.loop-p.p + 1)) = omega (arith, c.size-p-end.ensures.value) in
    let left = ap (λ m. vertices_at c.args.self.now.bytes.now n c.loop-p.p m c.loop-p.self.at (state c.loop-p.graph)) turn in
    search rules

pub loop-p-preserved : goal.loop-p-preserved
unfolding vertices_at
loop-p-preserved c =
    let n = (state c.args.graph.now).size in
    let turn : n - c.loop-p.p ≡ suc (n - (c.loop-p.p + 1)) = omega (arith, c.size-p-end.ensures.value) in
    let left = ap (λ m. vertices_at c.args.self.now.bytes.now n c.loop-p.p m c.loop-p.self.at (state c.loop-p.graph)) turn in
    search rules

pub returns : goal.returns
unfolding vertices_at
returns c =
    let n = (state c.args.graph.now).size in
    let over : n - c.loop-p.p ≡ 0 = omega (arith, c.size-p-end.ensures.value) in
    let left = ap (λ m. vertices_at c.args.self.now.bytes.now n c.loop-p.p m c.loop-p.self.at (state c.loop-p.graph)) over in
    search rules
