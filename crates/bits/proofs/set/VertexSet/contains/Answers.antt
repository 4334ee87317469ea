use Rattle.std.proofs.Common.{◌≡◌, ◌+◌, ◌*◌, ◌/◌, ◌%◌, sym, ap, ◌∙◌, arith}
use Rattle.bits.specs.Sets.{member}
use Rattle.bits.proofs.Holds.{among_words}
use Rattle.bits.proofs.set.VertexSet.contains.Goals as goal

pub returns : goal.returns
returns c =
    let at : 64 * (c.from.result / 64) + c.from-2.result % 64 ≡ c.args.v = omega (arith, c.from.ensures, c.from-2.ensures) in
    c.has.ensures ∙ (ap (member c.args.self.now.words) at ∙ sym (among_words 4 c.args.self.now c.args.v (omega arith)))
