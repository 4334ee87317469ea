use Rattle.std.proofs.Common.{◌+◌, ◌*◌, ◌≤◌, mul-le-mul_right, mul-le-mul_left, mul-add, arith}
use Rattle.bits.specs.Rows.{cell}
use Rattle.bits.proofs.Blocks.{swapped_more}
use Rattle.bits.proofs.block.swap.Goals as goal

pub swap_strips-requires : goal.swap_strips-requires
swap_strips-requires g c =
    let more = mul-add (2 * g.row.J) c.loop-b.b 1 in
    let most : 2 * g.row.J * (c.loop-b.b + 1) ≤ 2 * g.row.J * c.args.n = mul-le-mul_left (2 * g.row.J) (omega (arith, c.loop-b-test.true)) in
    let fits : 2 * g.row.J * c.loop-b.b + 2 * g.row.J ≤ 64 = omega (arith, c.requires) in
    let words = mul-le-mul_right g.row.W fits in
    (omega (arith, c.requires), (fits, c.requires.1.1))

pub loop-b-preserved : goal.loop-b-preserved
loop-b-preserved g c =
    swapped_more g.row.J g.row.W c.args.mask (cell c.args.block.now g.row.W) (cell c.loop-b.block g.row.W) (cell c.swap_strips.new.block g.row.W) c.loop-b.b c.requires.1.1
    c.swap_strips.ensures c.loop-b.invariant
