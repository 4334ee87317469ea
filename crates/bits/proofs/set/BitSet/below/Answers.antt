use Rattle.std.proofs.Common.{◌≡◌, ℕ, ◌+◌, ◌*◌, ◌<◌, ltb, ◌∙◌, arith, rules}
use Rattle.model.specs.Bit.{bit}
use Rattle.bits.proofs.FromFn.{each_made}
use Rattle.bits.proofs.Member.{member_made}
use Rattle.bits.proofs.set.BitSet.below.Goals as goal

pub returns : goal.returns
returns g c k =
    c.of.ensures k
    ∙ member_made (λ k. ltb k c.args.n) c.from_fn.result g.row.W (omega arith)
    (each_made _ (λ i y. (j : ℕ) → j < 64 → bit y j ≡ ltb (64 * i + j) c.args.n) _ (λ i y q call. (search rules, search rules)) c.from_fn.result 0 g.row.W c.from_fn.ensures.items)
    k
