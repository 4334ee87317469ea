use Rattle.std.proofs.Common.{◌*◌, ◌&&◌, ◌||◌, eqb, ltb, ap, ◌∙◌}
use Rattle.bits.specs.Rows.{cell}
use Rattle.bits.proofs.Holds.{among_room}
use Rattle.bits.proofs.set.BitSet.add_to.Goals as goal

pub returns : goal.returns
returns g c y k =
    c.add_words.ensures y k
    ∙ ap (λ b. cell c.args.rows.now g.row.W y k || (eqb y c.args.x && b))
    (ap (λ b. ltb k (64 * g.row.W) && b) (c.words.ensures k) ∙ among_room g.row.W c.args.self.now k)
