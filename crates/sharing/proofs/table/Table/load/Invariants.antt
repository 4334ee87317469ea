use Rattle.std.proofs.Common.{◌≡◌, ℕ, ◌+◌, ◌*◌, ◌<◌}
use Rattle.bits.specs.Rows.{cell}
use Rattle.sharing.specs.Filling.{about}
use Rattle.sharing.proofs.table.Table.load.Given as goal

abbrev pub invariant-loop-i : goal.invariant-loop-i
invariant-loop-i g l = (i y : ℕ) → i < l.i → cell l.block g.row.W i y ≡ (about g.row.W l.self).has (64 * l.g + i) l.r y
