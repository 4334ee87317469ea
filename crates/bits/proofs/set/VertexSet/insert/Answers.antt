use Rattle.std.proofs.Common.{◌≡◌, ◌+◌, ◌*◌, ◌/◌, ◌%◌, ◌||◌, eqb, sym, ◌∙◌, ap₂, arith}
use Rattle.bits.proofs.Holds.{among_words}
use Rattle.bits.proofs.set.VertexSet.insert.Goals as goal

pub returns : goal.returns
returns c k =
    let at : 64 * (c.from.result / 64) + c.from-2.result % 64 ≡ c.args.v = omega (arith, c.from.ensures, c.from-2.ensures) in
    among_words 4 (record { words = c.put.new.words }) k (omega arith) ∙
    (c.put.ensures k ∙ ap₂ (λ n b. eqb k n || b) at (sym (among_words 4 c.args.self.now k (omega arith))))
