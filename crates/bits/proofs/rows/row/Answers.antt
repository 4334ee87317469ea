use Rattle.std.proofs.Common.{◌≡◌, ℕ, ◌+◌, ◌-◌, ◌*◌, take, drop, ap, ◌∙◌, arith}
use Rattle.bits.specs.Sets.{member}
use Rattle.bits.proofs.Cell.{member_row}
use Rattle.bits.proofs.rows.row.Goals as goal

pub returns-clause-same : goal.returns-clause-same
returns-clause-same c k =
    let a : ℕ = c.args.x * c.args.w in
    let part : a + c.args.w - a ≡ c.args.w = omega arith in
    ap (λ n. member (take n (drop a c.args.rows.now)) k) part ∙ member_row c.args.rows.now c.args.w c.args.x k c.requires
