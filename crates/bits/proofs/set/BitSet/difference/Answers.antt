use Rattle.std.proofs.Common.{◌≡◌, ◌-◌, ◌^◌, not, ◌&&◌, get_or, refl, ap, ◌∙◌, ap₂, arith, rules}
use lib.Bits.{bit_and}
use Rattle.model.specs.Bit.{bit}
use Rattle.bits.proofs.Bit.{bit_without}
use Rattle.bits.proofs.Member.{member_joined}
use Rattle.bits.proofs.set.BitSet.difference.Goals as goal

pub returns : goal.returns
returns g c k =
    c.of.ensures k
    ∙ member_joined (λ a b. a && not b) c.words.result c.words-2.result c.joined.result g.row.W refl (omega arith) (omega arith) (omega arith)
    (λ i h j l.
    let call = c.joined.ensures i h in
    let word : get_or c.joined.result i 0 ≡ bit_and (get_or c.words.result i 0) (2 ^ 64 - 1 - get_or c.words-2.result i 0) = search rules in
    ap (λ w. bit w j) word ∙ bit_without _ _ j (search rules) l) k
    ∙ ap₂ (λ a b. a && not b) (c.words.ensures k) (c.words-2.ensures k)
