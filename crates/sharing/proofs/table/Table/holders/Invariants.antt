use Rattle.std.proofs.Common.{◌≡◌, ℕ, ◌+◌, ◌*◌, ◌&&◌, ltb, length}
use Rattle.spans.specs.Sets.{in_sets}
use Rattle.sharing.specs.Filling.{cells}
use Rattle.sharing.proofs.table.Table.holders.Given as goal

abbrev pub invariant-loop-y : goal.invariant-loop-y
invariant-loop-y g l = (length l.sets ≡ length l.initial.sets) × ((y x : ℕ) → in_sets l.sets y x ≡ (ltb y l.y && cells g.row.W l.self (8 * y + l.r) x))
