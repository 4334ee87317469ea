use Rattle.std.proofs.Common.{cond, eqb, ap, ◌∙◌, arith}
use Rattle.bits.specs.Rows.{cell}
use Rattle.bits.specs.Sets.{member}
use Rattle.bits.proofs.Over.{cell_over}
use Rattle.bits.proofs.set.BitSet.write.Goals as goal

pub returns : goal.returns
returns g c y k =
    cell_over c.args.rows.now c.copy_from_slice.new.self g.row.W c.args.x _ c.requires (omega arith) (omega arith) y k
    ∙ ap (λ b. cond (eqb y c.args.x) b (cell c.args.rows.now g.row.W y k)) (ap (λ ws. member ws k) c.copy_from_slice.ensures.after ∙ c.words.ensures k)
