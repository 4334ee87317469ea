use Rattle.std.proofs.Common.{ℕ, ap, ◌∙◌, arith}
use Rattle.model.specs.Bit.{bit}
use Rattle.bits.proofs.Bit.{bit_zero, bit_rest, trailing_lowest}
use Rattle.bits.proofs.words.pop_bit.Goals as goal

pub returns-then-word-eq0-clause-lowest : goal.returns-then-word-eq0-clause-lowest
returns-then-word-eq0-clause-lowest c =
    let none = λ (k : ℕ). ap (λ w. bit w k) c.if-word-eq0.true ∙ bit_zero k in
    (none, none)

pub returns-clause-lowest : goal.returns-clause-lowest
returns-clause-lowest c =
    let l = trailing_lowest 64 c.args.word.now (omega arith) (omega arith) in
    (l.1, l.2, λ k. bit_rest 64 c.args.word.now _ k (omega arith) l)
