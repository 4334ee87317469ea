use Rattle.std.proofs.Common.{◌≡◌, ◌&&◌, get_or, refl, ap, ◌∙◌, ap₂, arith, rules}
use lib.Bits.{bit_and}
use Rattle.model.specs.Bit.{bit}
use Rattle.bits.proofs.Bit.{bit_and-law}
use Rattle.bits.proofs.Member.{member_joined}
use Rattle.bits.proofs.set.BitSet.intersection.Goals as goal

pub returns : goal.returns
returns g c k =
    c.of.ensures k
    ∙ member_joined (λ a b. a && b) c.words.result c.words-2.result c.joined.result g.row.W refl (omega arith) (omega arith) (omega arith)
    (λ i h j l.
    let call = c.joined.ensures i h in
    let word : get_or c.joined.result i 0 ≡ bit_and (get_or c.words.result i 0) (get_or c.words-2.result i 0) = search rules in
    ap (λ w. bit w j) word ∙ bit_and-law _ _ j) k
    ∙ ap₂ (λ a b. a && b) (c.words.ensures k) (c.words-2.ensures k)
