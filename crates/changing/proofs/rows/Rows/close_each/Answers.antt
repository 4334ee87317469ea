use Rattle.std.proofs.Common.{◌+◌, sym, subst}
use Rattle.bits.specs.Sets.{holds}
use Rattle.changing.specs.Rounds.{Shut}
use Rattle.changing.proofs.Rounds.{Closing, closing_none, closing_more, closing_skip, shut_more}
use Rattle.changing.proofs.rows.Rows.close_each.Goals as goal
use Rattle.changing.specs.Rows.{in_rows}
use Rattle.changing.proofs.rows.Rows.close_each.Goals.{then-contains, else-contains}

pub loop-k-init : goal.loop-k-init
loop-k-init c = (closing_none (holds c.args.set) (in_rows c.args.self.now), c.requires)

pub loop-k-preserved : goal.loop-k-preserved
loop-k-preserved c =
    let A = holds c.args.set in
    let was = in_rows c.args.self.now in
    let rows = in_rows c.loop-k.self in
    let k = c.loop-k.k in
    elim c.if-contains.branch [
      | then-contains w ↦
          subst (λ r. Closing A was (in_rows r) (k + 1) × Shut A (in_rows r)) (sym w.self-is) (
            closing_more A was rows (in_rows w.round.new.self) k w.round.ensures c.loop-k.invariant.0,
            shut_more A rows (in_rows w.round.new.self) k w.if-contains.ensures w.round.ensures c.loop-k.invariant.1,
          )
      | else-contains w ↦
          subst (λ r. Closing A was (in_rows r) (k + 1) × Shut A (in_rows r)) (sym w.self-is)
          (closing_skip A was rows k w.if-contains.ensures c.loop-k.invariant.1 c.loop-k.invariant.0, c.loop-k.invariant.1)
    ]
