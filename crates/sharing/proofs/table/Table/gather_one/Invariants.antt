use Rattle.std.proofs.Common.{◌≡◌, ℕ, ◌&&◌, ◌||◌, ltb, length}
use Rattle.spans.specs.Sets.{in_sets}
use Rattle.sharing.specs.Filling.{about}
use Rattle.sharing.proofs.table.Table.gather_one.Given as goal

abbrev pub invariant-loop-r : goal.invariant-loop-r
invariant-loop-r g l = (length l.held ≡ 8) × ((r y : ℕ) → in_sets l.held r y ≡ (in_sets l.initial.held r y || (ltb r l.r && (about g.row.W l.self).has l.t r y)))
