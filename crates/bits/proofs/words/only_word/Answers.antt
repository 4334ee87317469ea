use Rattle.std.proofs.Common.{◌≡◌, ◌+◌, ◌*◌, ◌%◌, eqb, ap, ◌∙◌, arith}
use Rattle.std.proofs.lemmas.Nat.{one_shl}
use Rattle.std.proofs.lemmas.Bool.Decides.{nat_tests}
use Rattle.model.specs.Bit.{bit}
use Rattle.bits.proofs.Bit.{bit_pow, bit_zero}
use Rattle.bits.proofs.words.only_word.Goals as goal

pub returns-then-v-i : goal.returns-then-v-i
returns-then-v-i c j h =
    let at = c.if-v-i.true in
    let here : eqb j (c.args.v % 64) ≡ eqb (64 * c.args.i + j) c.args.v = grind (arith, nat_tests) in
    ap (λ m. bit m j) (one_shl (c.args.v % 64) 64 (omega arith)) ∙ bit_pow (c.args.v % 64) j ∙ here

pub returns-else-v-i : goal.returns-else-v-i
returns-else-v-i c j h = let other = c.if-v-i.false in let none = bit_zero j in grind (arith, nat_tests)
