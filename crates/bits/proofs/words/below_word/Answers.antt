use Rattle.std.proofs.Common.{◌≡◌, ◌+◌, ◌-◌, ◌*◌, ltb, sym, ap, ◌∙◌, arith}
use Rattle.std.proofs.lemmas.Nat.{one_shl}
use Rattle.std.proofs.lemmas.Bool.{lt-ltb}
use Rattle.std.proofs.lemmas.Bool.Decides.{nat_tests}
use Rattle.model.specs.Bit.{bit}
use Rattle.bits.proofs.Bit.{bit_ones}
use Rattle.bits.proofs.words.below_word.Goals as goal

pub returns-then-left-lt64 : goal.returns-then-left-lt64
returns-then-left-lt64 c j h =
    let left = c.saturating_sub-left.result in
    let here : ltb j left ≡ ltb (64 * c.args.i + j) c.args.n = grind (arith, nat_tests) in
    ap (λ m. bit (m - 1) j) (one_shl left 64 c.if-left-lt64.true) ∙ bit_ones left j ∙ here

pub returns-else-left-lt64 : goal.returns-else-left-lt64
returns-else-left-lt64 c j h = bit_ones 64 j ∙ lt-ltb j 64 h ∙ sym (lt-ltb (64 * c.args.i + j) c.args.n (omega arith))
